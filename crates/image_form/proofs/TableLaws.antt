-- Laws of tables: what holds of each record, and of records in order.
use Rattle.std.proofs.Common.{◌≡◌, ◌≢◌, ℕ, zero, suc, ◌+◌, ◌<◌, List, [], ◌∷◌, Some, refl, ap, arith, subst}
use Rattle.std.specs.Prelude.{slice_get}
use Rattle.std.specs.List.{AllByRecursion}
use Rattle.std.proofs.lemmas.Option.{same_Some}
use Rattle.image_form.specs.Lists.{BeforeFirst, EachToNext, AreDistinct}
pub use Rattle.base_laws.proofs.Lists.{each_from}

-- What holds of each record holds of the one with that number.
pub each_at : {A : Type 0} (P : A → Type 0) (xs : List A) (i : ℕ) (x : A) → AllByRecursion P xs → slice_get xs i ≡ Some x → P x
each_at P [] i x all e = absurd cc
each_at P (y ∷ ys) zero x all e = subst P (same_Some y x e) all.0
each_at P (y ∷ ys) (suc i) x all e = each_at P ys i x all.1 e

-- A record whose key is below the next one's, in a table whose keys ascend, has a key below every later one's.
below_later : {A : Type 0} (key : A → ℕ) (x : A) (xs : List A) (j : ℕ) (y : A) → BeforeFirst (λ a b. key a < key b) x xs → EachToNext (λ a b. key a < key b) xs → slice_get xs j ≡ Some y → key x < key y
below_later key x [] j y first ascend e = absurd cc
below_later key x (z ∷ zs) zero y first ascend e = subst (λ w. key x < key w) (same_Some z y e) first
below_later key x (z ∷ zs) (suc j) y first ascend e = let later = below_later key z zs j y ascend.0 ascend.1 e in omega (arith, first, later)

-- Records whose keys ascend have different keys.
pub ascending_distinct : {A : Type 0} (key : A → ℕ) (xs : List A) → EachToNext (λ a b. key a < key b) xs → AreDistinct key xs
ascending_distinct key [] ascend i j x y ei ej same = absurd cc
ascending_distinct key (z ∷ zs) ascend zero zero x y ei ej same = refl
ascending_distinct key (z ∷ zs) ascend zero (suc j) x y ei ej same =
    let later : key z < key y = below_later key z zs j y ascend.0 ascend.1 ej in
    let first : key z ≡ key x = ap key (same_Some z x ei) in
    absurd (omega (arith, later, first, same))
ascending_distinct key (z ∷ zs) ascend (suc i) zero x y ei ej same =
    let later : key z < key x = below_later key z zs i x ascend.0 ascend.1 ei in
    let first : key z ≡ key y = ap key (same_Some z y ej) in
    absurd (omega (arith, later, first, same))
ascending_distinct key (z ∷ zs) ascend (suc i) (suc j) x y ei ej same = ap suc (ascending_distinct key zs ascend.1 i j x y ei ej same)

-- A fact of each record and its number, counted from one on.
abbrev pub EachNumbered : {A : Type 0} → (ℕ → A → Type 0) → ℕ → List A → Type 0
EachNumbered P n [] = Unit {0}
EachNumbered P n (x ∷ xs) = P n x × EachNumbered P (suc n) xs

-- It holds of the record with a number.
pub numbered_at : {A : Type 0} (P : ℕ → A → Type 0) (n : ℕ) (xs : List A) (i : ℕ) (x : A) → EachNumbered P n xs → slice_get xs i ≡ Some x → P (n + i) x
numbered_at P n [] i x all e = absurd cc
numbered_at P n (y ∷ ys) zero x all e = let same : n ≡ n + 0 = omega arith in subst (λ m. P m x) same (subst (P n) (same_Some y x e) all.0)
numbered_at P n (y ∷ ys) (suc i) x all e = let same : suc n + i ≡ n + suc i = omega arith in subst (λ m. P m x) same (numbered_at P (suc n) ys i x all.1 e)

pub numbered_from_zero : {A : Type 0} (P : ℕ → A → Type 0) (xs : List A) (i : ℕ) (x : A) → EachNumbered P 0 xs → slice_get xs i ≡ Some x → P i x
numbered_from_zero P xs i x all e = let same : 0 + i ≡ i = omega arith in subst (λ m. P m x) same (numbered_at P 0 xs i x all e)

-- Each record has another key than each later one.
abbrev pub DiffersFromLater : {A B : Type 0} → (A → B) → List A → Type 0
DiffersFromLater key [] = Unit {0}
DiffersFromLater key (x ∷ xs) = AllByRecursion (λ y. key x ≢ key y) xs × DiffersFromLater key xs
