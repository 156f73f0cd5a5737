use Rattle.std.proofs.Common.{refl, subst, sym}
use Rattle.std.proofs.lemmas.Option.{same_Some}
use Rattle.currency_notes.specs.Notes.{IsAtMost}
use Rattle.currency_notes.proofs.joining.with_lesser.Goals as goal

pub returns-else-is_at_most-clause-apart : goal.returns-else-is_at_most-clause-apart
returns-else-is_at_most-clause-apart c = λ within.
    (let w = within c.args.change refl in c.is_at_most.ensures.apart c.if-is_at_most.false (λ d le. w.2 d (subst (λ o. IsAtMost o d) (same_Some c.args.other w.0 w.1) le)))
