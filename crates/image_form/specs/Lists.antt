-- Order and distinctness of the records of a table.
use Rattle.std.specs.Prelude.{◌≡◌, ℕ, List, [], ◌∷◌, Some, slice_get, ⊤}

-- R holds of a record and the first one of a list, if there is one.
abbrev pub BeforeFirst : {A : Type 0} → (A → A → Type 0) → A → List A → Type 0
BeforeFirst R x [] = ⊤
BeforeFirst R x (y ∷ ys) = R x y

-- R holds of each record and the next one.
abbrev pub EachToNext : {A : Type 0} → (A → A → Type 0) → List A → Type 0
EachToNext R [] = ⊤
EachToNext R (x ∷ xs) = BeforeFirst R x xs × EachToNext R xs

-- No two records have the same key.
abbrev pub AreDistinct : {A B : Type 0} → (A → B) → List A → Type 0
AreDistinct {A} key xs = (i j : ℕ) (x y : A) → slice_get xs i ≡ Some x → slice_get xs j ≡ Some y → key x ≡ key y → i ≡ j
