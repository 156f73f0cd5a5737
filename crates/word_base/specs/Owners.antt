-- What owns the objects of a C program.
use Rattle.std.specs.Prelude.{ℕ, ◌&&◌, ◌==◌, Bool, false}

-- What owns an object: a static object or a literal by its number, or a variable with the depth of the activation that
-- it belongs to, 1 for the first of `main`.
pub data Owner : Type 0 where
  Static : ℕ → Owner
  Literal : ℕ → Owner
  Variable : ℕ → ℕ → Owner

-- two owners are one
abbrev pub is_same_owner : Owner → Owner → Bool
is_same_owner (Static a) (Static b) = a == b
is_same_owner (Literal a) (Literal b) = a == b
is_same_owner (Variable a d) (Variable b e) = a == b && d == e
is_same_owner _ _ = false
