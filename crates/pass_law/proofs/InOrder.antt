-- Cases that are put in order.
use mathlib.Core.Bool.{true≢false}
use Rattle.std.proofs.Common.{◌≡◌, ◌≢◌, ◌⊎◌, inl, inr, ℕ, ◌<◌, List, [], ◌∷◌, length, get_or, map, set, swap, refl, sym, ap, ◌∙◌, subst, arith}
use Rattle.std.specs.Prelude.{AllPairs}
use Rattle.std.specs.Cmp.{IsTotalOrder, nat_cmp_total}
use Rattle.std.specs.List.Sorted.{IsPermutation, IsSorted}
use Rattle.std.specs.declared.cmp.Ordering.{Ordering}
use Rattle.std.specs.declared.cmp.Ordering.TheVariants.{Less, Equal}
use Rattle.std.specs.Ordering.{is_lt, nat_cmp, ordering_then}
use Rattle.std.proofs.lemmas.Bool.{cases_eq}
use Rattle.std.proofs.lemmas.Cmp.{by_ranked, on_total, ranked, then_total}
use Rattle.std.proofs.lemmas.List.{get_or-map, length-map, map-set}
use Rattle.std.proofs.lemmas.List.Edits.{Swapped, length-swap, swap_is, swapped_from_swap}
use Rattle.std.proofs.lemmas.List.Sorted.{Contains-permutation, IsPermutation-keeps, IsPermutation-refl, IsPermutation-swap, IsPermutation-sym, IsPermutation-trans, ranks_by, sorted_far}
use Rattle.graph_core.specs.Graphs.{Graph}
use Rattle.pass_law.specs.declared.cases.Case.{Case}
use Rattle.pass_law.specs.Changes.{AreAll, AreCasesOf, AreInOrder, IsBefore}

-- where a swap of a and b took the element at m from
abbrev From : ℕ → ℕ → ℕ → ℕ → Type 0
From a b m k = ((m ≡ a) × (k ≡ b)) ⊎ (((m ≡ b) × (k ≡ a)) ⊎ ((m ≢ a) × (m ≢ b) × (k ≡ m)))

-- in another order nothing stands twice either
module _ {A : Type 0} where
  either_way : (xs : List A) → AllPairs (λ a b. a ≢ b) xs → (i j : ℕ) (d : A) → i < length xs → j < length xs → get_or xs i d ≡ get_or xs j d → i ≡ j
  either_way xs h i j d p q e =
      let not_below : i < j → ⊥ = λ less. h i j d less q e in
      let not_above : j < i → ⊥ = λ less. h j i d less p (sym e) in
      omega arith

  origin : (f g : ℕ → A) (a b m : ℕ) → Swapped f g a b → (m ≡ a) ⊎ (m ≢ a) → (m ≡ b) ⊎ (m ≢ b) → (k : ℕ) × From a b m k × (g m ≡ f k)
  origin f g a b m s (inl e) y = (b, inl (e, refl), ap g e ∙ s.0)
  origin f g a b m s (inr n) (inl e) = (a, inr (inl (e, refl)), ap g e ∙ s.1)
  origin f g a b m s (inr n) (inr o) = (m, inr (inr (n, o, refl)), s.2 m n o)

  apart_swap : (xs : List A) (a b : ℕ) → a < length xs → b < length xs → AllPairs (λ x y. x ≢ y) xs → AllPairs (λ x y. x ≢ y) (swap xs a b)
  apart_swap xs a b p q h i j d less within e =
      let len = length-swap xs a b in
      let s = swapped_from_swap xs (swap xs a b) a b d p q refl in
      let x = origin _ _ a b i s (cases_eq i a) (cases_eq i b) in
      let y = origin _ _ a b j s (cases_eq j a) (cases_eq j b) in
      let same = either_way xs h x.0 y.0 d (omega (arith, x.1)) (omega (arith, y.1)) (sym x.2 ∙ e ∙ y.2) in
      omega (arith, x.1, y.1)

  all_permuted : (P : A → Type 0) (xs ys : List A) → IsPermutation xs ys → AreAll P xs → AreAll P ys
  all_permuted P xs ys moved all = record {
    only = λ a c. all.only a (Contains-permutation ys xs a (IsPermutation-sym xs ys moved) c);
    each = λ a p. Contains-permutation xs ys a moved (all.each a p);
    once = IsPermutation-keeps xs (AllPairs (λ x y. x ≢ y)) all.once apart_swap ys moved;
  }

-- what is moved among views was moved among what they view
module _ {A B : Type 0} (f : A → B) where
  map_swap : (xs : List A) (i j : ℕ) → i < length xs → j < length xs → map f (swap xs i j) ≡ swap (map f xs) i j
  map_swap [] i j p q = absurd (omega (arith, p))
  map_swap (x ∷ xs) i j p q =
      let long = length-map (x ∷ xs) f in
      let at_i = get_or-map f (x ∷ xs) i x (f x) p in
      let at_j = get_or-map f (x ∷ xs) j x (f x) q in
      ap (map f) (sym (swap_is (x ∷ xs) i j x p q)) ∙ map-set f (set (x ∷ xs) i (get_or (x ∷ xs) j x)) j (get_or (x ∷ xs) i x)
      ∙ ap (λ l. set l j (f (get_or (x ∷ xs) i x))) (map-set f (x ∷ xs) i (get_or (x ∷ xs) j x))
      ∙ ap (λ b. set (set (map f (x ∷ xs)) i b) j (f (get_or (x ∷ xs) i x))) (sym at_j)
      ∙ ap (λ b. set (set (map f (x ∷ xs)) i (get_or (map f (x ∷ xs)) j (f x))) j b) (sym at_i)
      ∙ swap_is (map f (x ∷ xs)) i j (f x) (omega (arith, p, long)) (omega (arith, q, long))

  abbrev IsMoved : List A → List B → Type 0
  IsMoved xs ys = (zs : List A) × IsPermutation xs zs × (ys ≡ map f zs)

  moved_step : (xs : List A) (ys : List B) (i j : ℕ) → i < length ys → j < length ys → IsMoved xs ys → IsMoved xs (swap ys i j)
  moved_step xs ys i j p q (zs, moved, is) =
      let long = length-map zs f in
      let same = ap length is in
      let at_i : i < length zs = omega (arith, p, long, same) in
      let at_j : j < length zs = omega (arith, q, long, same) in
      (swap zs i j, IsPermutation-trans xs zs (swap zs i j) moved (IsPermutation-swap zs (swap zs i j) i j at_i at_j refl), ap (λ l. swap l i j) is ∙ sym (map_swap zs i j at_i at_j))

  moved_back : (xs : List A) (ys : List B) → IsPermutation (map f xs) ys → IsMoved xs ys
  moved_back xs ys moved = IsPermutation-keeps (map f xs) (IsMoved xs) (xs, IsPermutation-refl xs, refl) (moved_step xs) ys moved

-- cases of functions stay those, in whatever order
pub cases_permuted : (IsCase : (before after : Graph) → Case → Type 0) (gs hs : List Graph) (xs ys : List Case) → IsPermutation xs ys → AreCasesOf IsCase gs hs xs → AreCasesOf IsCase gs hs ys
cases_permuted IsCase gs hs xs ys moved cases =
    let m = moved_back (λ (c : ℕ × Case). c.1) cases.of ys (subst (λ l. IsPermutation l ys) cases.are moved) in
    record { of = m.0; all = all_permuted _ cases.of m.0 m.1 cases.all; are = m.2 }

-- how cases compare: by place, block, instruction, operand and variable
abbrev case_cmp : Case → Case → Ordering
case_cmp a b =
    ordering_then (nat_cmp a.place.0 b.place.0)
    (ordering_then (nat_cmp a.block b.block) (ordering_then (nat_cmp a.index b.index) (ordering_then (nat_cmp a.operand b.operand) (nat_cmp a.var.0 b.var.0))))

case_total : IsTotalOrder case_cmp
case_total =
    then_total (on_total (λ (c : Case). c.place.0) nat_cmp_total)
    (then_total (on_total (λ (c : Case). c.block) nat_cmp_total)
    (then_total (on_total (λ (c : Case). c.index) nat_cmp_total) (then_total (on_total (λ (c : Case). c.operand) nat_cmp_total) (on_total (λ (c : Case). c.var.0) nat_cmp_total))))

less_first : (a b : ℕ) → a < b → nat_cmp a b ≡ Less
less_first a b lt = by_ranked (a < b) (a ≡ b) (b < a) (nat_cmp a b) (ranked a b (nat_cmp a b) refl) (λ is p. is) (λ is p. absurd (omega (arith, lt, p))) (λ is p. absurd (omega (arith, lt, p)))

tied_first : (a b : ℕ) → a ≡ b → nat_cmp a b ≡ Equal
tied_first a b e = by_ranked (a < b) (a ≡ b) (b < a) (nat_cmp a b) (ranked a b (nat_cmp a b) refl) (λ is p. absurd (omega (arith, e, p))) (λ is p. is) (λ is p. absurd (omega (arith, e, p)))

carried : {Q : Type 0} (a b : ℕ) (o : Ordering) → (Q → o ≡ Less) → (a < b) ⊎ ((a ≡ b) × Q) → ordering_then (nat_cmp a b) o ≡ Less
carried a b o go (inl lt) = ap (λ r. ordering_then r o) (less_first a b lt)
carried a b o go (inr p) = ap (λ r. ordering_then r o) (tied_first a b p.0) ∙ go p.1

before_less : (a b : Case) → IsBefore a b → case_cmp a b ≡ Less
before_less a b h = carried _ _ _ (carried _ _ _ (carried _ _ _ (λ lt. ap (λ r. ordering_then r (nat_cmp a.var.0 b.var.0)) (less_first a.operand b.operand lt)))) h

-- what is sorted is in order
pub in_order : (xs : List Case) → IsSorted case_cmp xs → AreInOrder xs
in_order xs up i j d less within before =
    true≢false (sym (ap is_lt (before_less (get_or xs j d) (get_or xs i d) before)) ∙ sorted_far (λ x y. is_lt (case_cmp x y)) (ranks_by case_total (λ x. x)) xs up i j d (omega (arith, less)) within)
