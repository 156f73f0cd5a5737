use Rattle.std.proofs.Common.{length, sym, ap, ◌∙◌, true≢false}
use Rattle.std.proofs.lemmas.List.{length-set}
use Rattle.currency_notes.proofs.Keeping.{lost_kept}
use Rattle.currency_notes.proofs.Sourcing.{told_lost}
use Rattle.currency_notes.proofs.state.State.lose_one.Goals as goal

pub returns-then-reads-clause-kept : goal.returns-then-reads-clause-kept
returns-then-reads-clause-kept c =
    lost_kept c.args.function.now.homes c.args.name c.args.scalar c.args.self.now.noted.items c.put_note.new.self.noted.items c.put_note.ensures.noted (λ r said unread. true≢false (sym c.if-reads.true ∙ (c.reads.ensures r said).1 unread))

pub returns-then-reads-clause-size : goal.returns-then-reads-clause-size
returns-then-reads-clause-size c = ap (λ xs. length xs) c.put_note.ensures.noted ∙ length-set c.args.self.now.noted.items c.args.scalar _

pub returns-then-reads-clause-told : goal.returns-then-reads-clause-told
returns-then-reads-clause-told c = told_lost c.args.self.now.noted.items c.put_note.new.self.noted.items c.args.scalar c.put_note.ensures.noted
