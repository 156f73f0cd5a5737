use Rattle.std.proofs.Common.{◌≡◌, ◌<◌, ◌≤◌, ℕ, List, Option, ap, length, subst, sym, ◌∙◌}
use Rattle.std.specs.Prelude.{◌⊎◌}
use Rattle.std.specs.Vec.{with_items}
use Rattle.std.proofs.lemmas.List.{with_items_is}
use Rattle.currency_notes.specs.declared.noted.Noted as declared-noted
use Rattle.currency_notes.specs.declared.state.State as declared-state
use Rattle.currency_notes.specs.Notes.{noted_in}
use Rattle.currency_notes.specs.Ranks.{known_in, rank_in, AreWrittenWithin, IsNotedWithin}
use Rattle.currency_notes.proofs.Lowering.{lowered_state}
use Rattle.currency_notes.proofs.state.State.join.Goals as goal

-- what was noted in one list is within another one, or a third one ranks lower
abbrev IsLess : (old from new : List declared-noted.Noted) → Type 0
IsLess old from new = ((x : ℕ) → IsNotedWithin x (noted_in old x) (noted_in from x)) ⊎ (rank_in new < rank_in old)

abbrev IsFew : (old from new : List (Option ℕ)) → Type 0
IsFew old from new = AreWrittenWithin old from ⊎ (known_in new < known_in old)

pub returns-clause-falls : goal.returns-clause-falls
returns-clause-falls c =
    (let s = c.args.self.now in
    let t = c.args.other.now in
    let noted = c.join_noted.new.to in
    let written = c.join_written.new.to in
    let before = c.deref_mut.ensures.value in
    let known = c.deref_mut-2.ensures.value in
    let a : (with_items s.noted noted).items ≡ noted = with_items_is s.noted noted (c.join_noted.ensures.size ∙ ap (λ xs. length xs) before ∙ sym s.noted.ok.0) in
    let b : (with_items s.written written).items ≡ written = with_items_is s.written written (c.join_written.ensures.size ∙ ap (λ xs. length xs) known ∙ sym s.written.ok.0) in
    let u : declared-state.State = record { noted = with_items s.noted noted; written = with_items s.written written } in
    let less : IsLess s.noted.items t.noted.items noted = subst (λ xs. IsLess xs t.noted.items noted) before (subst (λ ys. IsLess c.deref_mut.result.now ys noted) c.deref.ensures.value c.join_noted.ensures.falls) in
    let few : IsFew s.written.items t.written.items written = subst (λ xs. IsFew xs t.written.items written) known (subst (λ ys. IsFew c.deref_mut-2.result.now ys written) c.deref-2.ensures.value c.join_written.ensures.falls) in
    let least : rank_in noted ≤ rank_in s.noted.items = subst (λ xs. rank_in noted ≤ rank_in xs) before c.join_noted.ensures.least in
    let fewest : known_in written ≤ known_in s.written.items = subst (λ xs. known_in written ≤ known_in xs) known c.join_written.ensures.least in
    lowered_state s t u (subst (λ xs. IsLess s.noted.items t.noted.items xs) (sym a) less) (subst (λ xs. IsFew s.written.items t.written.items xs) (sym b) few) (subst (λ xs. rank_in xs ≤ rank_in s.noted.items) (sym a) least)
    (subst (λ xs. known_in xs ≤ known_in s.written.items) (sym b) fewest))
