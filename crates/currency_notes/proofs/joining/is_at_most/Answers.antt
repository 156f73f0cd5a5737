use Rattle.std.proofs.Common.{◌≤◌, ◌<◌, arith, subst, sym}
use Rattle.std.proofs.lemmas.Bool.{leb-false}
use Rattle.currency_notes.specs.Notes.{IsAtMost}
use Rattle.currency_notes.proofs.joining.is_at_most.Goals as goal

pub returns-in-Some-Some-clause-apart : goal.returns-in-Some-Some-clause-apart
returns-in-Some-Some-clause-apart c = λ e each.
    (let w = c.in-Some-Some in
    let le : w.x ≤ w.y = subst (λ o. IsAtMost o w.y) w.is-0 (each w.y (subst (λ o. IsAtMost o w.y) (sym w.is-1) (omega arith))) in
    let lt : w.y < w.x = leb-false w.x w.y e in
    omega (arith, le, lt))

pub returns-in-None-Some-clause-apart : goal.returns-in-None-Some-clause-apart
returns-in-None-Some-clause-apart c = λ e each.
    (let w = c.in-None-Some in subst (λ o. IsAtMost o w.field-0-1) w.is-0 (each w.field-0-1 (subst (λ o. IsAtMost o w.field-0-1) (sym w.is-1) (omega arith))))
