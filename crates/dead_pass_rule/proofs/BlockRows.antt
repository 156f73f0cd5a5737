-- Rows of blocks, one for each.
use Rattle.std.proofs.Common.{◌≡◌, ℕ, zero, suc, ◌+◌, ◌<◌, ◌⊎◌, inl, inr, Option, Some, List, [], ◌∷◌, ◌++◌, length, map, refl, sym, ap, ◌∙◌, subst, arith, get_or, take, drop, replicate}
use Rattle.std.specs.Prelude.{◌-◌, slice_get, slice_index_or}
use Rattle.std.specs.declared.vec.Vec.{Vec}
use Rattle.std.specs.declared.alloc.Global.{Global}
use Rattle.std.proofs.lemmas.Bool.{cases_eq}
use Rattle.std.proofs.lemmas.List.{length-map, length-take, map-append, take-append-drop}
use Rattle.std.proofs.lemmas.Option.{same_Some}
use Rattle.graph_core.specs.Graphs.{Block}
use Rattle.graph_paths.proofs.Leading.{block_there}
use Rattle.dead_pass_rule.proofs.Backward.{back_step}
use Rattle.base_laws.proofs.Lists.{snoc_new}

-- the others are as they were where one more is behind them
front_same : {A : Type 0} (xs : List A) (y : A) (n : ℕ) → n < length xs → slice_get (xs ++ y ∷ []) n ≡ slice_get xs n
front_same [] y n lt = absurd (omega (arith, lt))
front_same (x ∷ xs) y zero lt = refl
front_same (x ∷ xs) y (suc n) lt = front_same xs y n (omega (arith, lt))

last_row : {A : Type 0} (told longer : List A) (k : ℕ) (v : A) → length told ≡ k → longer ≡ told ++ v ∷ [] → slice_get longer k ≡ Some v
last_row told longer k v count grown = ap (λ n. slice_get longer n) (sym count) ∙ ap (λ l. slice_get l (length told)) grown ∙ snoc_new told v

other_row : {A : Type 0} (told longer : List A) (k : ℕ) (v : A) → length told ≡ k → longer ≡ told ++ v ∷ [] → (n : ℕ) → n < k → slice_get longer n ≡ slice_get told n
other_row told longer k v count grown n lt = ap (λ l. slice_get l n) grown ∙ front_same told v n (omega (arith, count, lt))

-- one block more has its row
pub rows_more : {V A : Type 0} (view : A → Block) (So : Option V → Block → Type 0) (all : List A) (told longer : List V) (k : ℕ) (a : A) (v : V) → length told ≡ k → longer ≡ told ++ v ∷ [] → k < length all → a ≡ get_or all k a
    → So (Some v) (view a) → ((n : ℕ) (b : Block) → n < k → slice_get (map view all) n ≡ Some b → So (slice_get told n) b) → (n : ℕ) (b : Block) → n < k + 1 → slice_get (map view all) n ≡ Some b → So (slice_get longer n) b
rows_more view So all told longer k a v count grown within is here old n b lt at = elim (cases_eq n k) [
  | inr other ↦ subst (λ o. So o b) (sym (other_row told longer k v count grown n (omega (arith, lt, other)))) (old n b (omega (arith, lt, other)) at)
  | inl same ↦ (let one_block : view a ≡ b = same_Some (view a) b (sym (block_there view all k a within is) ∙ ap (λ m. slice_get (map view all) m) (sym same) ∙ at) in
      subst (λ o. So o b) (sym (ap (λ m. slice_get longer m) same ∙ last_row told longer k v count grown)) (subst (λ c. So (Some v) c) one_block here))
]

-- one row more is so
pub each_more : (So : Vec ℕ Global → Type 0) (told longer : List (Vec ℕ Global)) (v : Vec ℕ Global) → longer ≡ told ++ v ∷ [] → So v → ((n : ℕ) (row : Vec ℕ Global) → slice_get told n ≡ Some row → So row)
    → (n : ℕ) (row : Vec ℕ Global) → slice_get longer n ≡ Some row → So row
each_more So told longer v grown here old n row at = by told n old (ap (λ l. slice_get l n) (sym grown) ∙ at)
  where
    by : (xs : List (Vec ℕ Global)) (m : ℕ) → ((n : ℕ) (row : Vec ℕ Global) → slice_get xs n ≡ Some row → So row) → slice_get (xs ++ v ∷ []) m ≡ Some row → So row
    by [] zero each q = subst So (same_Some v row q) here
    by [] (suc m) each q = cc
    by (x ∷ xs) zero each q = each 0 row q
    by (x ∷ xs) (suc m) each q = by xs m (λ n r. each (suc n) r) q

pub zeros : (n k : ℕ) → slice_index_or (replicate {A = ℕ} n 0) k 0 ≡ 0
zeros zero k = refl
zeros (suc n) zero = refl
zeros (suc n) (suc k) = zeros n k

-- a list that is gone over from the end, at one point
pub back_parts : {A B : Type 0} (view : A → B) (all : List A) (left : ℕ) (x : A) → left < length all → x ≡ get_or all (length all - 1 - left) x
    → map view all ≡ map view (take (length all - 1 - left) all) ++ view x ∷ map view (drop (length all - left) all)
back_parts view all left x lt is =
    let k : ℕ = length all - 1 - left in
    let j : length all - (left + 1) ≡ length all - 1 - left = omega (arith, lt) in
    ap (λ l. map view l) (sym (take-append-drop k all)) ∙ map-append view (take k all) (drop k all)
    ∙ ap (λ l. map view (take k all) ++ l) (ap (λ m. map view (drop m all)) (sym j) ∙ back_step view all left x lt is)

pub back_before : {A B : Type 0} (view : A → B) (all : List A) (left : ℕ) → left < length all → length (map view (take (length all - 1 - left) all)) ≡ length all - 1 - left
back_before view all left lt = (let one : length (map view (take (length all - 1 - left) all)) ≡ length (take (length all - 1 - left) all) = length-map (take (length all - 1 - left) all) view in
    let two = length-take (length all - 1 - left) all in omega (arith, one, two, lt))
