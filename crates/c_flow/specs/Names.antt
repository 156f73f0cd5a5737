-- The classes of automatic variables by their names: a class is the first variable of its name.
use Rattle.std.specs.Prelude.{◌≡◌, ℕ, ◌+◌, ◌<◌, ◌≤◌, true, false, List, length, min, slice_index}
use Rattle.c_tree.specs.Programs.{AutomaticTree}
use Rattle.c_places.specs.Places.{is_same_name, name_of}

-- A variable is the first one of the name of another.
pub record IsFirstOfName (all : List AutomaticTree) (x first : ℕ) : Type 0 where
  pub within : first ≤ x
  pub same : is_same_name (name_of all first) (name_of all x) ≡ true
  pub least : (j : ℕ) → j < first → is_same_name (name_of all j) (name_of all x) ≡ false

-- These are the classes of the variables by position, and behind them that of what is no variable, which has the empty
-- name.
pub record AreClasses (all : List AutomaticTree) (classes : List ℕ) : Type 0 where
  pub count : length classes ≡ length all + 1
  pub first : (x : ℕ) → x ≤ length all → IsFirstOfName all x (slice_index classes x)

-- the class of a variable, among so many
abbrev pub class_of : (count : ℕ) → List ℕ → ℕ → ℕ
class_of count classes x = slice_index classes (min x count)
