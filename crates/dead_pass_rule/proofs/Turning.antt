-- Turns of which one changes.
use Rattle.std.proofs.Common.{◌≡◌, ◌≢◌, ℕ, zero, suc, ◌+◌, ◌<◌, ◌⊎◌, inl, inr, true, false, true≢false, Option, Some, None, List, [], ◌∷◌, length, refl, sym, ap, ◌∙◌, subst, arith, length-set}
use Rattle.std.specs.Prelude.{◌==◌, not, slice_get, slice_index_or, slice_set}
use Rattle.std.specs.declared.vec.Vec.{Vec}
use Rattle.std.specs.declared.alloc.Global.{Global}
use Rattle.std.proofs.lemmas.Bool.{cases_eq}
use Rattle.std.proofs.lemmas.List.{get_or-set_other, get_or-set_same}
use Rattle.std.proofs.lemmas.Option.{same_Some}
use Rattle.graph_core.specs.Graphs.{Block}
use Rattle.graph_core.specs.Validity.{total}
use Rattle.dead_pass_rule.specs.Asking.{is_going}
use Rattle.dead_pass_rule.specs.Cascade.{GoesOneMore, HasRow, HaveRows, stays_one, staying, staying_in}
use Rattle.dead_pass_rule.specs.Walks.{turn_in, turn_of}
use Rattle.base_laws.proofs.Lists.{set_elsewhere, set_here}

-- a sum over a list of which one element changes
total_set : {A : Type 0} (count : A → ℕ) (xs : List A) (n : ℕ) (x y : A) → slice_get xs n ≡ Some x → total count (slice_set xs n y) + count x ≡ total count xs + count y
total_set count [] n x y e = cc
total_set count (z ∷ xs) zero x y e =
    (let same : z ≡ x = same_Some z x e in
    let counts : count z ≡ count x = ap count same in omega (arith, counts))
total_set count (z ∷ xs) (suc n) x y e = (let rest = total_set count xs n x y e in omega (arith, rest))

-- the element of a number, where one is read there
read_there : (xs : List ℕ) (k v : ℕ) → k < length xs → slice_index_or xs k 0 ≡ v → slice_get xs k ≡ Some v
read_there [] k v lt e = absurd (omega (arith, lt))
read_there (x ∷ xs) zero v lt e = ap (λ z. Some z) e
read_there (x ∷ xs) (suc k) v lt e = read_there xs k v (omega (arith, lt)) e

-- A write goes that stayed: its turn becomes 1 in its row, and the row is put in.
module _ (old new : List (Vec ℕ Global)) (n left : ℕ) (row more : Vec ℕ Global) (at : slice_get old n ≡ Some row) (put : new ≡ slice_set old n more)
    (turned : more.items ≡ slice_set row.items left 1) (within : left < length row.items) (stayed : slice_index_or row.items left 0 ≡ 0) where
  here : slice_get new n ≡ Some more
  here = ap (λ l. slice_get l n) put ∙ set_here old n row more at

  elsewhere : (m : ℕ) → m ≢ n → slice_get new m ≡ slice_get old m
  elsewhere m other = ap (λ l. slice_get l m) put ∙ set_elsewhere old n m more other

  turn_here : (k : ℕ) → turn_of new n k ≡ slice_index_or (slice_set row.items left 1) k 0
  turn_here k = ap (λ o. turn_in o k) here ∙ ap (λ l. slice_index_or l k 0) turned

  was_here : (k : ℕ) → turn_of old n k ≡ slice_index_or row.items k 0
  was_here k = ap (λ o. turn_in o k) at

  -- all turns but one are as they were
  turn_other : (m k : ℕ) → ((m ≡ n) × (k ≡ left) → ⊥) → turn_of new m k ≡ turn_of old m k
  turn_other m k none = elim (cases_eq m n) [
    | inr other ↦ ap (λ o. turn_in o k) (elsewhere m other)
    | inl same ↦ ap (λ j. turn_of new j k) same ∙ turn_here k ∙ get_or-set_other row.items left k 1 0 (λ q. none (same, q)) ∙ sym (was_here k) ∙ ap (λ j. turn_of old j k) (sym same)
  ]

  -- and that one is 1
  turn_put : (m k : ℕ) → m ≡ n → k ≡ left → turn_of new m k ≡ 1
  turn_put m k same at_left = ap (λ j. turn_of new j k) same ∙ ap (λ j. turn_of new n j) at_left ∙ turn_here left ∙ get_or-set_same row.items left 1 0 within

  is_here : (m k : ℕ) → ((m ≡ n) × (k ≡ left)) ⊎ ((m ≡ n) × (k ≡ left) → ⊥)
  is_here m k = elim (cases_eq m n) [
    | inr other ↦ inr (λ both. other both.0)
    | inl same ↦ elim (cases_eq k left) [
      | inr other ↦ inr (λ both. other both.1)
      | inl at_left ↦ inl (same, at_left)
    ]
  ]

  pub goes_one : GoesOneMore old new n left
  goes_one = record {
    only = λ m k going. elim (is_here m k) [
      | inl is ↦ inr is
      | inr none ↦ inl (ap (λ t. not (t == 0)) (sym (turn_other m k none)) ∙ going)
    ];
    kept = λ m k going. elim (is_here m k) [
      | inl is ↦ ap (λ t. not (t == 0)) (turn_put m k is.0 is.1)
      | inr none ↦ ap (λ t. not (t == 0)) (turn_other m k none) ∙ going
    ];
    rows = rows;
    fewer = fewer;
  }
    where
      rows : (blocks : List Block) → HaveRows blocks old → HaveRows blocks new
      rows blocks have m b there = elim (cases_eq m n) [
        | inr other ↦ subst (λ o. HasRow o b) (sym (elsewhere m other)) (have m b there)
        | inl same ↦ (let was : length row.items ≡ length b.instructions = subst (λ o. HasRow o b) (ap (λ j. slice_get old j) same ∙ at) (have m b there) in
            let now : length more.items ≡ length b.instructions = ap (λ (l : List ℕ). length l) turned ∙ length-set row.items left 1 ∙ was in
            subst (λ o. HasRow o b) (sym (ap (λ j. slice_get new j) same ∙ here)) now)
      ]

      fewer : staying new < staying old
      fewer =
          (let one : total staying_in (slice_set old n more) + staying_in row ≡ total staying_in old + staying_in more = total_set staying_in old n row more at in
          let new_is : staying new ≡ total staying_in (slice_set old n more) = ap (λ (l : List (Vec ℕ Global)). staying l) put in
          let two : total stays_one (slice_set row.items left 1) + 1 ≡ total stays_one row.items + 0 = total_set stays_one row.items left 0 1 (read_there row.items left 0 within stayed) in
          let more_is : staying_in more ≡ total stays_one (slice_set row.items left 1) = ap (λ (l : List ℕ). total stays_one l) turned in
          omega (arith, one, new_is, two, more_is))

-- nothing goes where all turns of rows are 0
pub none_goes : (turns : List (Vec ℕ Global)) → ((n : ℕ) (row : Vec ℕ Global) (left : ℕ) → slice_get turns n ≡ Some row → slice_index_or row.items left 0 ≡ 0) → (n left : ℕ) → is_going (turn_of turns) n left ≡ false
none_goes turns all_zero n left = by (slice_get turns n) refl
  where
    by : (o : Option (Vec ℕ Global)) → slice_get turns n ≡ o → not (turn_in o left == 0) ≡ false
    by None q = refl
    by (Some row) q = ap (λ t. not (t == 0)) (all_zero n row left q)
