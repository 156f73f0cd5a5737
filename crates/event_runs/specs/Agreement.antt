-- Lists of events that agree as far as both go, and runs that only grow.
-- A run is a function of a bound (of turns, steps or instructions) into the list of the events that come within it.
use Rattle.std.specs.Prelude.{◌≡◌, ℕ, ◌≤◌, List, [], ◌∷◌, ◌++◌}

-- the events of two lists are related one by one, as far as both go
abbrev pub Agree : {A B : Type 0} → (A → B → Type 0) → List A → List B → Type 0
Agree R [] ys = Unit {0}
Agree R (x ∷ xs) [] = Unit {0}
Agree R (x ∷ xs) (y ∷ ys) = R x y × Agree R xs ys

-- two lists of one length whose events are related one by one
abbrev pub Pairs : {A B : Type 0} → (A → B → Type 0) → List A → List B → Type 0
Pairs R [] [] = Unit {0}
Pairs R [] (y ∷ ys) = ⊥
Pairs R (x ∷ xs) [] = ⊥
Pairs R (x ∷ xs) (y ∷ ys) = R x y × Pairs R xs ys

-- the whole begins with the front
abbrev pub Begins : {A : Type 0} → List A → List A → Type 0
Begins {A = A} front whole = (rest : List A) × (whole ≡ front ++ rest)

-- a run with a greater bound begins with the run with a smaller one
abbrev pub Grows : {A : Type 0} → (ℕ → List A) → Type 0
Grows run = (k j : ℕ) → k ≤ j → Begins (run k) (run j)
