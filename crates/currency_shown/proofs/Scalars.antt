-- Scalars of different variables, and their numbers.
use Rattle.std.proofs.Common.{◌≡◌, ◌≢◌, inl, inr, ℕ, zero, suc, ◌+◌, ◌-◌, ◌<◌, ◌≤◌, false, Bool, Option, Some, None, List, [], ◌∷◌, length, get_or, map, refl, sym, ap, subst, ◌∙◌, arith}
use Rattle.std.specs.Prelude.{slice_get, slice_set, if◌then◌else◌, nat_lt}
use Rattle.std.specs.List.{AllByRecursion}
use Rattle.std.specs.Option.{option_map_or}
use Rattle.std.proofs.lemmas.Bool.{le-ltb, ltb-false}
use Rattle.std.proofs.lemmas.Bool.Decides.{eqb_tells}
use Rattle.std.proofs.lemmas.Option.{none-some, same_Some, slice_get-get_or, slice_get_within}
use Rattle.graph_core.specs.declared.graph.Scalar as declared-scalar
use Rattle.graph_core.specs.Graphs.{Scalar, scalar_view}
use Rattle.graph_core.specs.Validity.{AreAllDifferent}
use Rattle.currency_notes.proofs.Lists.{get_put_other, get_put_same, set_cases}
use Rattle.currency_shown.specs.declared.numbering.Numbering as declared-numbering
use Rattle.currency_shown.specs.Numbering.{scalar_in, AreDistinctVariables, AreNumbered, IsNumberOf}
use Rattle.currency_shown.specs.Found.{AreBelow}
use Rattle.base_laws.proofs.Booleans.{by_bool}

-- a variable that none of some scalars is
not_one : (v : ℕ) (scalars : List declared-scalar.Scalar) → AllByRecursion (λ q. v ≢ q) (map (λ (s : Scalar). s.variable) (map scalar_view scalars)) → (y : ℕ) (t : declared-scalar.Scalar) → slice_get scalars y ≡ Some t → v ≡ t.var.0 → ⊥
not_one v [] all y t at e = none-some t at
not_one v (s ∷ more) all zero t at e = all.0 (e ∙ ap (λ (u : declared-scalar.Scalar). u.var.0) (sym (same_Some s t at)))
not_one v (s ∷ more) all (suc y) t at e = not_one v more all.1 y t at e

pub distinct_variables : (scalars : List declared-scalar.Scalar) → AreAllDifferent (map (λ (s : Scalar). s.variable) (map scalar_view scalars)) → AreDistinctVariables scalars
distinct_variables [] all x y s t one other e = absurd (none-some s one)
distinct_variables (z ∷ more) all zero zero s t one other e = refl
distinct_variables (z ∷ more) all zero (suc y) s t one other e = absurd (not_one z.var.0 more all.0 y t other (ap (λ (u : declared-scalar.Scalar). u.var.0) (same_Some z s one) ∙ e))
distinct_variables (z ∷ more) all (suc x) zero s t one other e = absurd (not_one z.var.0 more all.0 x s one (ap (λ (u : declared-scalar.Scalar). u.var.0) (same_Some z t other) ∙ sym e))
distinct_variables (z ∷ more) all (suc x) (suc y) s t one other e = ap suc (distinct_variables more all.1 x y s t one other e)

-- one scalar more has its number
module _ (scalars : List declared-scalar.Scalar) (names : List (Option ℕ)) (k first : ℕ) (s : declared-scalar.Scalar) (lt : k < length scalars) (is : s ≡ get_or scalars k s) (distinct : AreDistinctVariables scalars)
    (low : (x : ℕ) (t : declared-scalar.Scalar) → slice_get scalars x ≡ Some t → first ≤ t.var.0) (small : s.var.0 - first < length names) where
  here : slice_get scalars k ≡ Some s
  here = slice_get-get_or scalars k s lt ∙ ap Some (sym is)

  pub put_more : ((x : ℕ) (t : declared-scalar.Scalar) → x < k → slice_get scalars x ≡ Some t → slice_get names (t.var.0 - first) ≡ Some (Some x))
      → (x : ℕ) (t : declared-scalar.Scalar) → x < k + 1 → slice_get scalars x ≡ Some t → slice_get (slice_set names (s.var.0 - first) (Some k)) (t.var.0 - first) ≡ Some (Some x)
  put_more before x t less at = elim (eqb_tells x k) [
    | inl e ↦ (let same : s ≡ t = same_Some s t (sym here ∙ ap (λ z. slice_get scalars z) (sym e.1) ∙ at) in
        subst (λ (u : declared-scalar.Scalar). slice_get (slice_set names (s.var.0 - first) (Some k)) (u.var.0 - first) ≡ Some (Some x)) same
        (get_put_same names (s.var.0 - first) (Some k) small ∙ ap (λ (z : ℕ). Some (Some z)) (sym e.1)))
    | inr e ↦ get_put_other names (s.var.0 - first) (Some k) (t.var.0 - first) (λ q. e.1 (distinct x k t s at here (apart t.var.0 s.var.0 (low x t at) (low k s here) q))) ∙ before x t (omega (arith, less, e.1)) at
  ]
    where
      apart : (a b : ℕ) → first ≤ a → first ≤ b → a - first ≡ b - first → a ≡ b
      apart a b one other q = omega (arith, one, other, q)

  pub only_more : ((i x : ℕ) → slice_get names i ≡ Some (Some x) → (t : declared-scalar.Scalar) × (slice_get scalars x ≡ Some t) × (t.var.0 ≡ i + first))
      → (i x : ℕ) → slice_get (slice_set names (s.var.0 - first) (Some k)) i ≡ Some (Some x) → (t : declared-scalar.Scalar) × (slice_get scalars x ≡ Some t) × (t.var.0 ≡ i + first)
  only_more before i x at = elim (set_cases names (s.var.0 - first) (Some k) i (Some x) at) [
    | inl e ↦ (let one : x ≡ k = same_Some x k e.1 in
        let le = low k s here in
        let index = e.0 in
        (s, ap (λ z. slice_get scalars z) one ∙ here, omega (arith, le, index)))
    | inr e ↦ before i x e.1
  ]

-- where all have numbers each is that of its variable
pub all_numbered : (n : declared-numbering.Numbering) (scalars : List declared-scalar.Scalar) (k : ℕ) → length scalars ≤ k → ((x : ℕ) (t : declared-scalar.Scalar) → slice_get scalars x ≡ Some t → n.first ≤ t.var.0)
    → ((x : ℕ) (t : declared-scalar.Scalar) → x < k → slice_get scalars x ≡ Some t → slice_get n.names.items (t.var.0 - n.first) ≡ Some (Some x)) → AreNumbered n scalars
all_numbered n scalars k le low each x t at =
    let lt = slice_get_within scalars x t at in
    let named = each x t (omega (arith, lt, le)) at in
    let high : nat_lt t.var.0 n.first ≡ false = le-ltb t.var.0 n.first (low x t at) in
    ap (λ (b : Bool). if b then None else option_map_or (λ (o : Option ℕ). o) (slice_get n.names.items (t.var.0 - n.first)) None) high ∙ ap (λ (o : Option (Option ℕ)). option_map_or (λ (p : Option ℕ). p) o None) named

-- and no number is another variable's
pub only_numbered : (n : declared-numbering.Numbering) (scalars : List declared-scalar.Scalar) → ((i x : ℕ) → slice_get n.names.items i ≡ Some (Some x) → (t : declared-scalar.Scalar) × (slice_get scalars x ≡ Some t) × (t.var.0 ≡ i + n.first))
    → (v x : ℕ) → scalar_in n v ≡ Some x → IsNumberOf scalars v x
only_numbered n scalars each v x e = by_bool (nat_lt v n.first) (λ low. absurd (none-some x (sym (ap (λ (b : Bool). if b then None else option_map_or (λ (o : Option ℕ). o) (slice_get n.names.items (v - n.first)) None) low) ∙ e)))
    (λ high. at_found (slice_get n.names.items (v - n.first)) refl (sym (ap (λ (b : Bool). if b then None else option_map_or (λ (o : Option ℕ). o) (slice_get n.names.items (v - n.first)) None) high) ∙ e) (ltb-false v n.first high))
  where
    at_found : (o : Option (Option ℕ)) → slice_get n.names.items (v - n.first) ≡ o → option_map_or (λ (p : Option ℕ). p) (slice_get n.names.items (v - n.first)) None ≡ Some x → n.first ≤ v → IsNumberOf scalars v x
    at_found None q f le = absurd (none-some x (sym (ap (λ (o : Option (Option ℕ)). option_map_or (λ (p : Option ℕ). p) o None) q) ∙ f))
    at_found (Some p) q f le =
        let said : p ≡ Some x = sym (ap (λ (o : Option (Option ℕ)). option_map_or (λ (r : Option ℕ). r) o None) q) ∙ f in
        let w = each (v - n.first) x (q ∙ ap Some said) in
        let same = w.2 in
        (w.0, w.1, omega (arith, same, le))

-- the numbers are those of so many scalars
pub numbers_below : (n : declared-numbering.Numbering) (scalars : List declared-scalar.Scalar) → ((v x : ℕ) → scalar_in n v ≡ Some x → IsNumberOf scalars v x) → AreBelow n (length scalars)
numbers_below n scalars only v x e = (let w = only v x e in slice_get_within scalars x w.0 w.1)
