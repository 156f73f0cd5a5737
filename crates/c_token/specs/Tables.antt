-- Tables of the code.
use Rattle.std.specs.Prelude.{ℕ, List, map}
use Rattle.std.specs.Borrow.{Bor}

-- a table of spellings without where their bytes lie in memory
abbrev pub spelled : {A : Type 0} → List (Bor (List ℕ) × A) → List (List ℕ × A)
spelled table = map (λ entry. (entry.0.now, entry.1)) table
