use Rattle.std.proofs.Common.{sym, subst, List, ℕ, ◌∙◌}
use Rattle.graph_core.specs.Paths.{Among}
use Rattle.currency_notes.proofs.Losing.{written_by}
use Rattle.currency_notes.proofs.state.State.write.Goals as goal

pub returns : goal.returns
returns c =
    written_by c.args.function.now.homes c.args.name c.in-Some.number c.args.self.now c.put_name.new.self c.lose.new.self (sym c.number.ensures ∙ c.in-Some.is) c.put_name.ensures.noted c.put_name.ensures.written c.lose.ensures.written c.lose.ensures.less
    (λ x r said among. c.lose.ensures.unread x r said (subst (λ (l : List ℕ). Among x l) (sym c.readers.ensures) among)) c.lose.ensures.kept c.lose.ensures.told c.lose.ensures.size
