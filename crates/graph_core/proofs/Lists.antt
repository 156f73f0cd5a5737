-- What a chain of iterators says of a list, seen through a view.
use mathlib.Core.Bool.{true≢false}
use denote.Param.Members.{Mut}
use Rattle.std.proofs.Common.{◌≡◌, ◌-◌, ◌<◌, ℕ, zero, suc, Bool, true, false, Option, List, [], ◌∷◌, ◌++◌, ◌+◌, ◌^◌, ◌≤◌, length, get_or, take, drop, map, min, refl, subst, sym, ap, ◌∙◌, arith}
use Rattle.std.proofs.lemmas.Fn.{fold_over}
use Rattle.std.proofs.lemmas.Iterator.{YieldsList, cases_from_all}
use Rattle.std.proofs.lemmas.List.{take_all}
use Rattle.std.specs.Prelude.{◌↔◌, IsTrue, MatchOption}
use Rattle.std.specs.Bool.{MatchBool}
use Rattle.std.specs.Fn.{Called}
use Rattle.std.specs.Iterator.{Drains, YieldsThen}
use Rattle.std.specs.List.{AllByRecursion, AllWithin, FoldsTo, HoldsAt}
use Rattle.graph_core.specs.Validity.{total}

-- P holds of each element of a list, seen through a view, or fails at one: the two ends of `all`
module _ {A B : Type 0} (P : B → Type 0) (view : A → B) where
  all_within : (xs : List A) → AllWithin (λ x. P (view x)) xs 0 (length xs) → AllByRecursion P (map view xs)
  all_within [] h = tt
  all_within (x ∷ xs) h = (h 0 x (omega arith) (omega arith), all_within xs (λ k d a b. h (suc k) d (omega arith) (omega arith)))

  fails_at : (xs : List A) (k : ℕ) → k < length xs → HoldsAt (λ x. P (view x) → ⊥) xs k → AllByRecursion P (map view xs) → ⊥
  fails_at [] k l h a = omega arith
  fails_at (x ∷ xs) zero l h a = h x a.0
  fails_at (x ∷ xs) (suc k) l h a = fails_at xs k (omega arith) h a.1

  decided : (r : Bool) (xs : List A) → MatchBool r (AllWithin (λ x. P (view x)) xs 0 (length xs)) ((k : ℕ) × (k < length xs) × HoldsAt (λ x. P (view x) → ⊥) xs k) → (IsTrue r ↔ AllByRecursion P (map view xs))
  decided true xs m = (λ e. all_within xs m, λ a. refl)
  decided false xs m = (λ e. absurd (true≢false (sym e)), λ a. absurd (fails_at xs m.0 m.1 m.2 a))

-- what the calls of a test decide of each element of a list, seen through a view, `all` decides of all of it
module _ {S A B C F : Type 0} {steps : S → Option A → S → Type 0} {v : A → B} {g : Mut F (A × Unit {0}) Bool} {s : S} {xs : List B} (P : C → Type 0) (view : B → C) (u : S) (f : F) (r : Bool) where
  pub all_passes : (ys : List A) × (o : Option A) × (j : F) × YieldsThen steps s ys o u × FoldsTo (λ p x q. Called g p (x, tt) true q) f ys j × MatchOption o (r ≡ true) (λ x. (r ≡ false) × ((h : F) × Called g j (x, tt) false h))
      → YieldsList steps v s xs → ((x : A) (b : Bool) (q : F) → Called g f (x, tt) b q → (q ≡ f) × (IsTrue b ↔ P (view (v x)))) → (IsTrue r ↔ AllByRecursion P (map view xs))
  all_passes ran given told = decided P view r xs (cases_from_all u f r (λ x. P (view x)) (λ x. P (view x) → ⊥) ran given (λ x q c. ((told x true q c).0, (told x true q c).1.0 refl)) (λ x q c p. true≢false (sym ((told x false q c).1.1 p))))

-- so much more of what is counted one more element has
total_more : {A : Type 0} (count : A → ℕ) (xs : List A) (x : A) → total count (xs ++ (x ∷ [])) ≡ total count xs + count x
total_more count [] x = omega arith
total_more count (y ∷ xs) x = omega (arith, total_more count xs x)

map_more : {A B : Type 0} (view : A → B) (xs : List A) (x : A) → map view (xs ++ (x ∷ [])) ≡ map view xs ++ (view x ∷ [])
map_more view [] x = refl
map_more view (y ∷ xs) x = ap (λ zs. view y ∷ zs) (map_more view xs x)

-- what each call adds for its element of a list, seen through a view, `fold` adds up for all of it, or the greatest number where it is more
module _ {S A B C F : Type 0} {steps : S → Option A → S → Type 0} {v : A → B} {g : Mut F (ℕ × (A × Unit {0})) ℕ} {s : S} {xs : List B} (count : C → ℕ) (view : B → C) (f : F) (r : ℕ) where
  pub adds_up : (ys : List A) × (q : F) × Drains steps s ys × FoldsTo {P = F × ℕ} (λ p x q. Called g p.0 (p.1, (x, tt)) q.1 q.0) (f, 0) ys (q, r)
      → YieldsList steps v s xs → ((a : ℕ) (x : A) (b : ℕ) (q : F) → Called g f (a, (x, tt)) b q → (b ≡ min (a + count (view (v x))) (2 ^ 64 - 1)) × (q ≡ f)) → r ≡ min (total count (map view xs)) (2 ^ 64 - 1)
  adds_up ran given told = fold_over steps v g (λ ys a. a ≡ min (total count (map view ys)) (2 ^ 64 - 1)) f more s xs 0 r given.runs (omega arith) ran
    where
      more : (ys : List B) (a : ℕ) (x : A) (b : ℕ) (q : F) → a ≡ min (total count (map view ys)) (2 ^ 64 - 1) → Called g f (a, (x, tt)) b q → (b ≡ min (total count (map view (ys ++ (v x ∷ [])))) (2 ^ 64 - 1)) × (q ≡ f)
      more ys a x b q h c =
          let one = told a x b q c in
          let sum : total count (map view (ys ++ (v x ∷ []))) ≡ total count (map view ys) + count (view (v x)) = ap (total count) (map_more view ys (v x)) ∙ total_more count (map view ys) (view (v x)) in
          (omega (arith, one.0, h, sum), one.1)

-- P holds of each element of a list, seen through a view, where it holds of the first and of each of the rest
module _ {A B : Type 0} (P : B → Type 0) (view : A → B) where
  pub first_and_rest : (xs : List A) (x : A) → 1 ≤ length xs → x ≡ get_or xs 0 x → (AllByRecursion P (map view xs) ↔ P (view x) × AllByRecursion P (map view (take (length xs - 1) (drop 1 xs))))
  first_and_rest [] x l e = absurd (omega (arith, l))
  first_and_rest (y ∷ ys) x l e =
      subst (λ (zs : List A). (P (view y) × AllByRecursion P (map view ys)) ↔ P (view x) × AllByRecursion P (map view zs)) (sym (take_all (length (y ∷ ys) - 1) ys (omega arith)))
      (subst (λ (z : A). (P (view y) × AllByRecursion P (map view ys)) ↔ P (view z) × AllByRecursion P (map view ys)) (sym e) (λ h. h, λ h. h))
