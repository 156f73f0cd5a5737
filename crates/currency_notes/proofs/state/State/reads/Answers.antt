use Rattle.std.proofs.Common.{ap, sym, ◌∙◌}
use Rattle.std.proofs.lemmas.Option.{none-some}
use Rattle.currency_notes.specs.Notes.{recipe_of}
use Rattle.currency_notes.proofs.ReadNames.{unread_own}
use Rattle.currency_notes.proofs.state.State.reads.Goals as goal

pub returns-in-Lost : goal.returns-in-Lost
returns-in-Lost c = λ r said. absurd (none-some r (ap (λ n. recipe_of c.args.scalar n) (sym c.in-Lost.is ∙ c.last_of.ensures) ∙ said))

pub returns-in-Own : goal.returns-in-Own
returns-in-Own c = λ r said.
    unread_own c.args.function.now.homes c.args.scalar c.args.name c.have_one.result c.have_one.ensures.0 c.have_one.ensures.1 r (ap (λ n. recipe_of c.args.scalar n) (sym c.in-Own.is ∙ c.last_of.ensures) ∙ said)
