use Rattle.std.proofs.Common.{ℕ, List, Option, subst}
use Rattle.currency_notes.specs.declared.noted.Noted as declared-noted
use Rattle.currency_notes.specs.Notes.{noted_in}
use Rattle.currency_notes.specs.Ranks.{AreWrittenWithin, IsNotedWithin}
use Rattle.currency_notes.proofs.Lowering.{within_parts}
use Rattle.currency_notes.proofs.state.State.is_within.Goals as goal

-- no more is noted of each scalar than in another list
abbrev AreWithin : (less more : List declared-noted.Noted) → Type 0
AreWithin less more = (x : ℕ) → IsNotedWithin x (noted_in less x) (noted_in more x)

pub returns-then-are_noted-clause-within : goal.returns-then-are_noted-clause-within
returns-then-are_noted-clause-within c = λ e.
    (let s = c.args.self.now in
    let t = c.args.other.now in
    let noted : AreWithin s.noted.items t.noted.items = subst (λ xs. AreWithin xs t.noted.items) c.deref.ensures.value (subst (λ ys. AreWithin c.deref.result.now ys) c.deref-2.ensures.value (c.are_noted.ensures.within c.if-are_noted.true)) in
    let written : AreWrittenWithin s.written.items t.written.items = subst (λ (xs : List (Option ℕ)). AreWrittenWithin xs t.written.items) c.deref-then-are_noted.ensures.value
    (subst (λ (ys : List (Option ℕ)). AreWrittenWithin c.deref-then-are_noted.result.now ys) c.deref-then-are_noted-2.ensures.value (c.are_written.ensures.within e)) in
    within_parts s t noted written)
