-- Computations that are marked, one instruction and one block after the other.
use Rattle.std.proofs.Common.{◌≡◌, ◌↔◌, ◌⊎◌, inl, inr, ℕ, ◌+◌, Bool, true, false, true≢false, not, ◌&&◌, ◌||◌, List, length, Option, Some, None, refl, sym, ap, ◌∙◌, subst, arith}
use Rattle.std.specs.Global.{Vec}
use Rattle.std.proofs.lemmas.Bool.{and_from, and_parts, cases_eq, eq-eqb, eqb-true, not_from_false, or_cases, or_left, or_right}
use Rattle.motion_pass_points.specs.Columns.{is_number, number_at}
use Rattle.motion_pass_problems.proofs.Bools.{not_true}
use Rattle.motion_pass_placement.specs.declared.fates.Fate.{Fate}
use Rattle.motion_pass_placement.specs.Fates.{fate_of}
use Rattle.motion_pass_placement.specs.Columns.{fates_of, row_of}
use Rattle.motion_pass_placement.specs.Placed.{IsMovedAnywhere, IsMovedBefore, stays_by}

is_some_number : (k : ℕ) (o : Option ℕ) → is_number k o ≡ true → o ≡ Some k
is_some_number k None so = absurd (true≢false (sym so))
is_some_number k (Some m) so = ap Some (eqb-true m k so)

-- one instruction more
pub marked_on : (A : Type 0) (numbers : List (Option ℕ)) (fates : List Fate) (k index : ℕ) (old new : Bool) (number : Option ℕ) (fate : Fate) → number ≡ number_at numbers index → fate ≡ fate_of fates index → new ≡ (old || (is_number k number && not (stays_by fate)))
    → ((old ≡ true) ↔ (A ⊎ IsMovedBefore index numbers fates k)) → (new ≡ true) ↔ (A ⊎ IsMovedBefore (index + 1) numbers fates k)
marked_on A numbers fates k index old new number fate number_is fate_is step was = (
  λ flag. elim (or_cases old (is_number k number && not (stays_by fate)) (sym step ∙ flag)) [
    | inl before ↦ elim (was.0 before) [
      | inl a ↦ inl a
      | inr m ↦ inr (further m)
    ]
    | inr here ↦ (let both = and_parts (is_number k number) (not (stays_by fate)) here in
        inr (record { index = index; inside = omega arith; is = sym number_is ∙ is_some_number k number both.0; moves = ap stays_by (sym fate_is) ∙ not_true (stays_by fate) both.1 }))
  ],
  λ there. step ∙ elim there [
    | inl a ↦ or_left old (is_number k number && not (stays_by fate)) (was.1 (inl a))
    | inr m ↦ elim (cases_eq m.index index) [
      | inl same ↦
          let is_k : number ≡ Some k = number_is ∙ ap (number_at numbers) (sym same) ∙ m.is in
          let moves : stays_by fate ≡ false = ap stays_by (fate_is ∙ ap (fate_of fates) (sym same)) ∙ m.moves in
          or_right old (is_number k number && not (stays_by fate)) (and_from (is_number k number) (not (stays_by fate)) (ap (is_number k) is_k ∙ eq-eqb k k refl) (not_from_false (stays_by fate) moves))
      | inr apart ↦ or_left old (is_number k number && not (stays_by fate)) (was.1 (inr (nearer m apart)))
    ]
  ],
)
  where
    further : IsMovedBefore index numbers fates k → IsMovedBefore (index + 1) numbers fates k
    further m = (let lt = m.inside in record { index = m.index; inside = omega (arith, lt); is = m.is; moves = m.moves })

    nearer : (m : IsMovedBefore (index + 1) numbers fates k) → (m.index ≡ index → ⊥) → IsMovedBefore index numbers fates k
    nearer m apart = (let lt = m.inside in record { index = m.index; inside = omega (arith, lt, apart); is = m.is; moves = m.moves })

-- one block more
pub blocks_on : (rows : List (Vec (Option ℕ))) (fates : List (Vec Fate)) (k block : ℕ) (old new : Bool) (row : List (Option ℕ)) (told : List Fate) → row ≡ row_of rows block → told ≡ fates_of fates block
    → ((new ≡ true) ↔ ((old ≡ true) ⊎ IsMovedBefore (length told) row told k)) → ((old ≡ true) ↔ IsMovedAnywhere block rows fates k) → (new ≡ true) ↔ IsMovedAnywhere (block + 1) rows fates k
blocks_on rows fates k block old new row told row_is told_is step was = (
  λ flag. elim (step.0 flag) [
    | inl before ↦ further (was.0 before)
    | inr m ↦ record { block = block; within = omega arith; moves = here.0 m }
  ],
  λ there. step.1 (elim (cases_eq there.block block) [
    | inl same ↦ inr (here.1 (subst (λ n. IsMovedBefore (length (fates_of fates n)) (row_of rows n) (fates_of fates n) k) same there.moves))
    | inr apart ↦ inl (was.1 (nearer there apart))
  ]),
)
  where
    here : IsMovedBefore (length told) row told k ↔ IsMovedBefore (length (fates_of fates block)) (row_of rows block) (fates_of fates block) k
    here = (
      λ m. subst (λ fs. IsMovedBefore (length fs) (row_of rows block) fs k) told_is (subst (λ r. IsMovedBefore (length told) r told k) row_is m),
      λ m. subst (λ r. IsMovedBefore (length told) r told k) (sym row_is) (subst (λ fs. IsMovedBefore (length fs) (row_of rows block) fs k) (sym told_is) m),
    )

    further : IsMovedAnywhere block rows fates k → IsMovedAnywhere (block + 1) rows fates k
    further m = (let lt = m.within in record { block = m.block; within = omega (arith, lt); moves = m.moves })

    nearer : (m : IsMovedAnywhere (block + 1) rows fates k) → (m.block ≡ block → ⊥) → IsMovedAnywhere block rows fates k
    nearer m apart = (let lt = m.within in record { block = m.block; within = omega (arith, lt, apart); moves = m.moves })
