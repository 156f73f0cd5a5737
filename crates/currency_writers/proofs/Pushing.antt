-- Lists to which one entry is appended.
use Rattle.std.proofs.Common.{◌≡◌, ◌≢◌, inl, inr, ℕ, zero, suc, ◌-◌, ◌<◌, ◌≤◌, Option, Some, List, [], ◌∷◌, ◌++◌, length, get_or, refl, sym, ap, subst, ◌∙◌, arith}
use Rattle.std.specs.Prelude.{slice_get, slice_set, Contains, ◌⊎◌}
use Rattle.std.specs.Option.{option_map_or}
use Rattle.std.specs.Global.{Vec}
use Rattle.std.specs.List.Sorted.{IsNonDecreasing}
use Rattle.std.proofs.lemmas.Bool.Decides.{eqb_tells}
use Rattle.std.proofs.lemmas.List.Elements.{Contains-append_left, Contains-get_or, Contains-push, Contains-push_cases}
use Rattle.std.proofs.lemmas.List.Sorted.{IsNonDecreasingBy-push}
use Rattle.currency_writers.specs.declared.lists.Lists as declared-lists
use Rattle.currency_writers.specs.Lists.{entries_of}

abbrev list_in : List (Vec ℕ) → ℕ → List ℕ
list_in all k = option_map_or (λ (v : Vec ℕ). v.items) (slice_get all k) []

-- no entries
pub none_in : (xs : List ℕ) (x : ℕ) → xs ≡ [] → Contains xs x → ⊥
none_in xs x e c = omega (arith, ap (λ ys. length ys) e, c.1)

pub none_ascends : (xs : List ℕ) → xs ≡ [] → IsNonDecreasing xs
none_ascends xs e i j d le lt = omega (arith, ap (λ ys. length ys) e, lt)

put_same : (all : List (Vec ℕ)) (k : ℕ) (v : Vec ℕ) → k < length all → list_in (slice_set all k v) k ≡ v.items
put_same [] k v lt = absurd (omega (arith, lt))
put_same (w ∷ all) zero v lt = refl
put_same (w ∷ all) (suc k) v lt = put_same all k v (omega (arith, lt))

put_other : (all : List (Vec ℕ)) (i : ℕ) (v : Vec ℕ) (k : ℕ) → k ≢ i → list_in (slice_set all i v) k ≡ list_in all k
put_other [] i v k other = refl
put_other (w ∷ all) zero v zero other = absurd (other refl)
put_other (w ∷ all) zero v (suc k) other = refl
put_other (w ∷ all) (suc i) v zero other = refl
put_other (w ∷ all) (suc i) v (suc k) other = put_other all i v k (λ e. other (ap suc e))

-- a list that was read
pub list_at : (all : List (Vec ℕ)) (k : ℕ) (v : Vec ℕ) → slice_get all k ≡ Some v → list_in all k ≡ v.items
list_at all k v e = ap (λ (o : Option (Vec ℕ)). option_map_or (λ (z : Vec ℕ). z.items) o []) e

-- an entry is appended to a list of vectors
module _ (old : List (Vec ℕ)) (number entry : ℕ) (v w : Vec ℕ) (lt : number < length old) (is : slice_get old number ≡ Some v) (more : w.items ≡ v.items ++ (entry ∷ [])) where
  pub pushed_here : list_in (slice_set old number w) number ≡ list_in old number ++ (entry ∷ [])
  pushed_here = put_same old number w lt ∙ more ∙ ap (λ xs. xs ++ (entry ∷ [])) (sym (list_at old number v is))

  pub pushed_others : (k : ℕ) → k ≢ number → list_in (slice_set old number w) k ≡ list_in old k
  pushed_others k other = put_other old number w k other

-- an entry is appended to a list
module _ (old new : declared-lists.Lists) (number entry : ℕ) (pushed : entries_of new number ≡ entries_of old number ++ (entry ∷ [])) (others : (k : ℕ) → k ≢ number → entries_of new k ≡ entries_of old k) where
  pub pushed_only : (k x : ℕ) → Contains (entries_of new k) x → Contains (entries_of old k) x ⊎ ((k ≡ number) × (x ≡ entry))
  pushed_only k x c = elim (eqb_tells k number) [
    | inl e ↦ (let there : Contains (entries_of old number ++ (entry ∷ [])) x = subst (λ xs. Contains xs x) (ap (λ j. entries_of new j) e.1 ∙ pushed) c in
        elim (Contains-push_cases (entries_of old number) entry x there) [
          | inl f ↦ inl (subst (λ j. Contains (entries_of old j) x) (sym e.1) f)
          | inr f ↦ inr (e.1, sym f)
        ])
    | inr e ↦ inl (subst (λ xs. Contains xs x) (others k e.1) c)
  ]

  pub pushed_kept : (k x : ℕ) → Contains (entries_of old k) x → Contains (entries_of new k) x
  pushed_kept k x c = elim (eqb_tells k number) [
    | inl e ↦ (let there : Contains (entries_of old number) x = subst (λ j. Contains (entries_of old j) x) e.1 c in
        subst (λ j. Contains (entries_of new j) x) (sym e.1) (subst (λ xs. Contains xs x) (sym pushed) (Contains-append_left (entries_of old number) (entry ∷ []) x there)))
    | inr e ↦ subst (λ xs. Contains xs x) (sym (others k e.1)) c
  ]

  pub pushed_there : Contains (entries_of new number) entry
  pushed_there = subst (λ xs. Contains xs entry) (sym pushed) (Contains-push (entries_of old number) entry)

  -- a list that ascends does so with an entry that is not below those before it
  pub ascending_push : ((x : ℕ) → Contains (entries_of old number) x → x ≤ entry) → ((k : ℕ) → IsNonDecreasing (entries_of old k)) → (k : ℕ) → IsNonDecreasing (entries_of new k)
  ascending_push below was k = elim (eqb_tells k number) [
    | inl e ↦ subst (λ j. IsNonDecreasing (entries_of new j)) (sym e.1)
        (subst (λ xs. IsNonDecreasing xs) (sym pushed)
        (IsNonDecreasingBy-push (λ x. x) (entries_of old number) entry (was number)
        (λ d some. below (get_or (entries_of old number) (length (entries_of old number) - 1) d) (Contains-get_or (entries_of old number) (length (entries_of old number) - 1) d (omega (arith, some))))))
    | inr e ↦ subst (λ xs. IsNonDecreasing xs) (sym (others k e.1)) (was k)
  ]
