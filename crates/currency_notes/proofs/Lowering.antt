-- How states are lowered where paths come together.
use Rattle.std.proofs.Common.{◌≡◌, ◌≢◌, inl, inr, ℕ, zero, suc, ◌+◌, ◌*◌, ◌<◌, ◌≤◌, min, true, false, Bool, Option, Some, None, List, [], ◌∷◌, length, get_or, refl, sym, ap, subst, ◌∙◌, arith}
use Rattle.std.specs.Prelude.{slice_get, slice_set, ◌⊎◌, IfSome}
use Rattle.std.specs.Option.{option_map_or}
use Rattle.std.proofs.Math.Nat.{min-le_right}
use Rattle.std.proofs.lemmas.Bool.Decides.{eqb_tells}
use Rattle.std.proofs.lemmas.Option.{none-some, same_Some, slice_get-get_or, slice_get_within}
use Rattle.graph_core.specs.Graphs.{Recipe, recipe_view}
use Rattle.currency_notes.specs.declared.function.Function as declared-function
use Rattle.currency_notes.specs.declared.noted.Noted as declared-noted
use Rattle.currency_notes.specs.declared.noted.Noted.TheVariants as noted
use Rattle.currency_notes.specs.declared.state.State as declared-state
use Rattle.currency_notes.specs.Notes.{noted_in, recipe_in, recipe_of, told_in, told_of, IsAtMost, IsToldWithin, IsWithin}
use Rattle.currency_notes.proofs.Lists.{get_put_other}
use Rattle.currency_notes.specs.Ranks.{known_in, name_in, most_rank, rank, rank_in, rank_of, rank_of_change, AreWrittenWithin, IsNotedWithin, IsSized}
use Rattle.currency_notes.proofs.Keeping.{put_other, put_same}
use Rattle.currency_notes.proofs.Sourcing.{told_cases}

low_change : (c : Option ℕ) → rank_of_change c ≤ 4294967296
low_change None = omega arith
low_change (Some c) = (let h : min c 4294967295 ≤ 4294967295 = min-le_right c 4294967295 in omega (arith, h))

low_noted : (n : declared-noted.Noted) → rank_of n ≤ 4294967298
low_noted noted.Lost = omega arith
low_noted noted.Own = omega arith
low_noted (noted.Recipe r c) = (let h = low_change c in omega (arith, h))

low_in : (all : List declared-noted.Noted) → rank_in all ≤ length all * 4294967298
low_in [] = omega arith
low_in (n ∷ more) = (let h = low_noted n in let k = low_in more in omega (arith, h, k))

few_known : (all : List (Option ℕ)) → known_in all ≤ length all
few_known [] = omega arith
few_known (None ∷ more) = (let h = few_known more in omega (arith, h))
few_known (Some y ∷ more) = (let h = few_known more in omega (arith, h))

-- a state of a function ranks no higher than the highest
pub low_rank : (f : declared-function.Function) (s : declared-state.State) → IsSized f s → rank s ≤ most_rank f
low_rank f s sized =
    let a = low_in s.noted.items in
    let b = few_known s.written.items in
    let e = sized.0 in
    let d = sized.1 in
    omega (arith, a, b, e, d)

-- what stands in a list
pub noted_there : (all : List declared-noted.Noted) (k : ℕ) (a : declared-noted.Noted) → k < length all → a ≡ get_or all k a → noted_in all k ≡ a
noted_there all k a lt is = ap (λ (o : Option declared-noted.Noted). option_map_or (λ (n : declared-noted.Noted). n) o noted.Lost) (slice_get-get_or all k a lt ∙ ap Some (sym is))

-- what a list ranks behind a store
rank_put : (all : List declared-noted.Noted) (k : ℕ) (n : declared-noted.Noted) → k < length all → rank_in (slice_set all k n) + rank_of (noted_in all k) ≡ rank_in all + rank_of n
rank_put [] k n lt = absurd (omega (arith, lt))
rank_put (m ∷ more) zero n lt = omega arith
rank_put (m ∷ more) (suc k) n lt = (let h = rank_put more k n (omega (arith, lt)) in omega (arith, h))

known_put : (all : List (Option ℕ)) (k : ℕ) (y : ℕ) → slice_get all k ≡ Some (Some y) → known_in (slice_set all k None) + 1 ≡ known_in all
known_put [] k y at = absurd (none-some (Some y) at)
known_put (None ∷ more) zero y at = absurd (none-some y (same_Some None (Some y) at))
known_put (Some z ∷ more) zero y at = omega arith
known_put (None ∷ more) (suc k) y at = (let h = known_put more k y at in omega (arith, h))
known_put (Some z ∷ more) (suc k) y at = (let h = known_put more k y at in omega (arith, h))

-- one scalar more was joined
module _ (old from now : List declared-noted.Noted) (k : ℕ) (a other joined : declared-noted.Noted) (lt : k < length now) (is : a ≡ get_or now k a) (too : other ≡ noted_in from k) where
  here : noted_in now k ≡ a
  here = noted_there now k a lt is

  pub kept_put : ((r : Recipe) → recipe_of k a ≡ Some r → recipe_of k other ≡ Some r → recipe_of k joined ≡ Some r) → ((x : ℕ) (r : Recipe) → recipe_in old x ≡ Some r → recipe_in from x ≡ Some r → recipe_in now x ≡ Some r)
      → (x : ℕ) (r : Recipe) → recipe_in old x ≡ Some r → recipe_in from x ≡ Some r → recipe_in (slice_set now k joined) x ≡ Some r
  kept_put one before x r said both = elim (eqb_tells x k) [
    | inl e ↦ (let there : recipe_of k a ≡ Some r = ap (λ (n : declared-noted.Noted). recipe_of k n) (sym here) ∙ subst (λ z. recipe_in now z ≡ Some r) e.1 (before x r said both) in
        let also : recipe_of k other ≡ Some r = ap (λ (n : declared-noted.Noted). recipe_of k n) too ∙ subst (λ z. recipe_in from z ≡ Some r) e.1 both in
        subst (λ z. recipe_in (slice_set now k joined) z ≡ Some r) (sym e.1) (put_same now k joined lt ∙ one r there also))
    | inr e ↦ put_other now k joined x r e.1 (before x r said both)
  ]

  pub told_put : ((c : Option ℕ) → told_of joined ≡ Some c → (told_of a ≡ Some c) ⊎ (told_of other ≡ Some c)) → ((x : ℕ) (c : Option ℕ) → told_in now x ≡ Some c → (told_in old x ≡ Some c) ⊎ (told_in from x ≡ Some c))
      → (x : ℕ) (c : Option ℕ) → told_in (slice_set now k joined) x ≡ Some c → (told_in old x ≡ Some c) ⊎ (told_in from x ≡ Some c)
  told_put one before x c e = elim (told_cases now k joined x c e) [
    | inl f ↦ elim (one c f.1) [
      | inl g ↦ before x c (ap (λ z. told_in now z) f.0 ∙ ap told_of here ∙ g)
      | inr g ↦ inr (ap (λ z. told_in from z) f.0 ∙ sym (ap told_of too) ∙ g)
    ]
    | inr f ↦ before x c f.1
  ]

-- and it ranks lower
module _ (old from now : List declared-noted.Noted) (k : ℕ) (a joined : declared-noted.Noted) (lt : k < length now) (is : a ≡ get_or now k a) where
  pub falls_put : rank_of joined < rank_of a → rank_in (slice_set now k joined) < rank_in now
  falls_put lower =
      let e = rank_put now k joined lt in
      let h : rank_of (noted_in now k) ≡ rank_of a = ap rank_of (noted_there now k a lt is) in
      omega (arith, e, h, lower)

-- what is known of a home stands in the list
known : (all : List (Option ℕ)) (k y : ℕ) → name_in all k ≡ Some y → slice_get all k ≡ Some (Some y)
known all k y e = at_found (slice_get all k) refl
  where
    at_found : (o : Option (Option ℕ)) → slice_get all k ≡ o → slice_get all k ≡ Some (Some y)
    at_found None q = absurd (none-some y (sym (ap (λ (p : Option (Option ℕ)). option_map_or (λ (n : Option ℕ). n) p None) q) ∙ e))
    at_found (Some o) q = q ∙ ap Some (sym (ap (λ (p : Option (Option ℕ)). option_map_or (λ (n : Option ℕ). n) p None) q) ∙ e)

pub name_there : (all : List (Option ℕ)) (k : ℕ) (o : Option ℕ) → slice_get all k ≡ Some o → name_in all k ≡ o
name_there all k o q = ap (λ (p : Option (Option ℕ)). option_map_or (λ (n : Option ℕ). n) p None) q

-- one home more was joined
module _ (old from now : List (Option ℕ)) (k : ℕ) (a : Option ℕ) (lt : k < length now) (is : a ≡ get_or now k a) where
  stands : slice_get now k ≡ Some a
  stands = slice_get-get_or now k a lt ∙ ap Some (sym is)

  pub known_put_kept : (a ≡ name_in from k → ⊥) → ((x y : ℕ) → slice_get old x ≡ Some (Some y) → slice_get from x ≡ Some (Some y) → slice_get now x ≡ Some (Some y))
      → (x y : ℕ) → slice_get old x ≡ Some (Some y) → slice_get from x ≡ Some (Some y) → slice_get (slice_set now k None) x ≡ Some (Some y)
  known_put_kept apart before x y there too = elim (eqb_tells x k) [
    | inl e ↦ (let one : a ≡ Some y = same_Some a (Some y) (sym stands ∙ subst (λ z. slice_get now z ≡ Some (Some y)) e.1 (before x y there too)) in
        let other : name_in from k ≡ Some y = name_there from k (Some y) (subst (λ z. slice_get from z ≡ Some (Some y)) e.1 too) in
        absurd (apart (one ∙ sym other)))
    | inr e ↦ get_put_other now k None x e.1 ∙ before x y there too
  ]

  pub known_more : now ≡ old → ((y : ℕ) → a ≡ Some y → name_in from k ≡ Some y) → ((x y : ℕ) → x < k → slice_get old x ≡ Some (Some y) → slice_get from x ≡ Some (Some y))
      → (x y : ℕ) → x < k + 1 → slice_get old x ≡ Some (Some y) → slice_get from x ≡ Some (Some y)
  known_more same one before x y small there = elim (eqb_tells x k) [
    | inl e ↦ (let here : slice_get now k ≡ Some (Some y) = ap (λ xs. slice_get xs k) same ∙ subst (λ z. slice_get old z ≡ Some (Some y)) e.1 there in
        subst (λ z. slice_get from z ≡ Some (Some y)) (sym e.1) (known from k y (one y (same_Some a (Some y) (sym stands ∙ here)))))
    | inr e ↦ before x y (omega (arith, small, e.1)) there
  ]

  pub fewer_known : (y : ℕ) → a ≡ Some y → known_in (slice_set now k None) < known_in now
  fewer_known y e = (let h = known_put now k y (stands ∙ ap Some e) in omega (arith, h))

-- the same, of what was noted
pub noted_more : (old from now : List declared-noted.Noted) (k : ℕ) (a : declared-noted.Noted) → k < length now → a ≡ get_or now k a → now ≡ old → IsNotedWithin k a (noted_in from k) → ((x : ℕ) → x < k → IsNotedWithin x (noted_in old x) (noted_in from x))
    → (x : ℕ) → x < k + 1 → IsNotedWithin x (noted_in old x) (noted_in from x)
noted_more old from now k a lt is same one before x small = elim (eqb_tells x k) [
  | inl e ↦ (let here : a ≡ noted_in old k = sym (noted_there now k a lt is) ∙ ap (λ all. noted_in all k) same in
      subst (λ z. IsNotedWithin z (noted_in old z) (noted_in from z)) (sym e.1) (subst (λ (n : declared-noted.Noted). IsNotedWithin k n (noted_in from k)) here one))
  | inr e ↦ before x (omega (arith, small, e.1))
]

-- of a scalar beyond a list nothing is noted
noted_beyond : (all : List declared-noted.Noted) (x : ℕ) → length all ≤ x → noted_in all x ≡ noted.Lost
noted_beyond [] x le = refl
noted_beyond (n ∷ all) zero le = absurd (omega (arith, le))
noted_beyond (n ∷ all) (suc x) le = noted_beyond all x (omega (arith, le))

lost_within : (x : ℕ) (n : declared-noted.Noted) → IsNotedWithin x noted.Lost n
lost_within x n = record { noted = λ r e. absurd (none-some r e); told = λ c e. absurd (none-some c e) }

pub noted_all : (old from : List declared-noted.Noted) (k : ℕ) → length old ≤ k → ((x : ℕ) → x < k → IsNotedWithin x (noted_in old x) (noted_in from x)) → (x : ℕ) → IsNotedWithin x (noted_in old x) (noted_in from x)
noted_all old from k le each x = elim (below x k) [
  | inl lt ↦ each x lt
  | inr ge ↦ subst (λ (n : declared-noted.Noted). IsNotedWithin x n (noted_in from x)) (sym (noted_beyond old x (omega (arith, le, ge)))) (lost_within x (noted_in from x))
]
  where
    below : (a b : ℕ) → (a < b) ⊎ (b ≤ a)
    below a zero = inr (omega arith)
    below zero (suc b) = inl (omega arith)
    below (suc a) (suc b) = elim (below a b) [ inl f ↦ inl (omega (arith, f)) | inr f ↦ inr (omega (arith, f)) ]

-- a state of which no scalar and no home has more
pub within_parts : (s t : declared-state.State) → ((x : ℕ) → IsNotedWithin x (noted_in s.noted.items x) (noted_in t.noted.items x)) → AreWrittenWithin s.written.items t.written.items → IsWithin s t
within_parts s t each written = record { noted = λ x. (each x).noted; written = written; told = λ x. (each x).told }

pub parts_within : (s t : declared-state.State) → IsWithin s t → (x : ℕ) → IsNotedWithin x (noted_in s.noted.items x) (noted_in t.noted.items x)
parts_within s t within x = record { noted = within.noted x; told = within.told x }

-- how far a list of what was noted was joined, up to a scalar: as it was, and no more is noted of each than in the other one; or it ranks lower
abbrev pub IsLowered : (old from now : List declared-noted.Noted) → (k : ℕ) → Type 0
IsLowered old from now k = ((now ≡ old) × ((x : ℕ) → x < k → IsNotedWithin x (noted_in old x) (noted_in from x))) ⊎ (rank_in now < rank_in old)

pub lowered_put : (old from now : List declared-noted.Noted) (k : ℕ) (a joined : declared-noted.Noted) → k < length now → a ≡ get_or now k a → rank_of joined < rank_of a → IsLowered old from now k → IsLowered old from (slice_set now k joined) (k + 1)
lowered_put old from now k a joined lt is lower before =
    let falls = falls_put old from now k a joined lt is lower in
    elim before [
      | inl f ↦ (let e : rank_in now ≡ rank_in old = ap rank_in f.0 in inr (omega (arith, falls, e)))
      | inr f ↦ inr (omega (arith, falls, f))
    ]

pub lowered_same : (old from now : List declared-noted.Noted) (k : ℕ) (a : declared-noted.Noted) → k < length now → a ≡ get_or now k a → IsNotedWithin k a (noted_in from k) → IsLowered old from now k → IsLowered old from now (k + 1)
lowered_same old from now k a lt is one before = elim before [
  | inl f ↦ inl (f.0, noted_more old from now k a lt is f.0 one f.1)
  | inr f ↦ inr f
]

pub lowered_least : (old from now : List declared-noted.Noted) (k : ℕ) → IsLowered old from now k → rank_in now ≤ rank_in old
lowered_least old from now k done = elim done [ inl f ↦ (let e : rank_in now ≡ rank_in old = ap rank_in f.0 in omega (arith, e)) | inr f ↦ omega (arith, f) ]

pub lowered_all : (old from now : List declared-noted.Noted) (k : ℕ) → length old ≤ k → IsLowered old from now k → ((x : ℕ) → IsNotedWithin x (noted_in old x) (noted_in from x)) ⊎ (rank_in now < rank_in old)
lowered_all old from now k le done = elim done [ inl f ↦ inl (noted_all old from k le f.1) | inr f ↦ inr f ]

-- the same of the homes for which names are known
abbrev pub IsFewer : (old from now : List (Option ℕ)) → (k : ℕ) → Type 0
IsFewer old from now k = ((now ≡ old) × ((x y : ℕ) → x < k → slice_get old x ≡ Some (Some y) → slice_get from x ≡ Some (Some y))) ⊎ (known_in now < known_in old)

pub fewer_put : (old from now : List (Option ℕ)) (k : ℕ) (a : Option ℕ) (y : ℕ) → k < length now → a ≡ get_or now k a → a ≡ Some y → IsFewer old from now k → IsFewer old from (slice_set now k None) (k + 1)
fewer_put old from now k a y lt is e before =
    let falls = fewer_known old from now k a lt is y e in
    elim before [
      | inl f ↦ (let q : known_in now ≡ known_in old = ap known_in f.0 in inr (omega (arith, falls, q)))
      | inr f ↦ inr (omega (arith, falls, f))
    ]

pub fewer_same : (old from now : List (Option ℕ)) (k : ℕ) (a : Option ℕ) → k < length now → a ≡ get_or now k a → ((y : ℕ) → a ≡ Some y → name_in from k ≡ Some y) → IsFewer old from now k → IsFewer old from now (k + 1)
fewer_same old from now k a lt is one before = elim before [
  | inl f ↦ inl (f.0, known_more old from now k a lt is f.0 one f.1)
  | inr f ↦ inr f
]

pub fewer_least : (old from now : List (Option ℕ)) (k : ℕ) → IsFewer old from now k → known_in now ≤ known_in old
fewer_least old from now k done = elim done [ inl f ↦ (let e : known_in now ≡ known_in old = ap known_in f.0 in omega (arith, e)) | inr f ↦ omega (arith, f) ]

pub fewer_all : (old from now : List (Option ℕ)) (k : ℕ) → length old ≤ k → IsFewer old from now k → AreWrittenWithin old from ⊎ (known_in now < known_in old)
fewer_all old from now k le done = elim done [
  | inl f ↦ inl (λ x y there. f.1 x y (let lt = slice_get_within old x (Some y) there in omega (arith, le, lt)) there)
  | inr f ↦ inr f
]

-- joining lowers a state that is not within the other one
pub lowered_state : (s t u : declared-state.State) → ((x : ℕ) → IsNotedWithin x (noted_in s.noted.items x) (noted_in t.noted.items x)) ⊎ (rank_in u.noted.items < rank_in s.noted.items) → AreWrittenWithin s.written.items t.written.items ⊎ (known_in u.written.items < known_in s.written.items)
    → rank_in u.noted.items ≤ rank_in s.noted.items → known_in u.written.items ≤ known_in s.written.items → (IsWithin s t → ⊥) → rank u < rank s
lowered_state s t u noted written less fewer apart = elim noted [
  | inl f ↦ elim written [ inl g ↦ absurd (apart (within_parts s t f g)) | inr g ↦ omega (arith, less, g) ]
  | inr f ↦ omega (arith, f, fewer)
]

-- ---- When what was noted is not within what is noted elsewhere

pub told_apart : (x : ℕ) (one other : declared-noted.Noted) (change : Option ℕ) → told_of one ≡ Some change → told_of other ≡ None → IsNotedWithin x one other → ⊥
told_apart x one other change is none within = (let w = within.told change is in none-some w.0 (sym none ∙ w.1))

pub noted_apart : (x : ℕ) (one other : declared-noted.Noted) (r s : Recipe) → recipe_of x one ≡ Some r → recipe_of x other ≡ Some s → (s ≡ r → ⊥) → IsNotedWithin x one other → ⊥
noted_apart x one other r s is too apart within = apart (same_Some s r (sym too ∙ within.noted r is))

pub lost_apart : (x : ℕ) (one other : declared-noted.Noted) (r : Recipe) → recipe_of x one ≡ Some r → recipe_of x other ≡ None → IsNotedWithin x one other → ⊥
lost_apart x one other r is none within = none-some r (sym none ∙ within.noted r is)
