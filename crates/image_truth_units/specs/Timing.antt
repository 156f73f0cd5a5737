-- What bounds how long the places of a graph take.
use Rattle.std.specs.Prelude.{◌≡◌, ◌≢◌, ℕ, ◌≤◌, false, Option, Some, List, [], ◌∷◌, slice_get}
use Rattle.graph_core.specs.Graphs.{Operand, Instruction, Zero, CopyWords, End, Return, Graph, UnitForm}
use Rattle.graph_core.specs.Paths.{History, Path, place_of, is_call, called}
use Rattle.graph_core.specs.Bounds.{most_words}
use Rattle.graph_core.specs.WellMarked.{InPlace}

-- The entry's place has no call, and each path from the entry to an end has another marker; words that are set or
-- copied are few, and precede each call of their place.
pub record KeepsTime (g : Graph) : Type 0 where
  pub entry_calls : (i : Instruction) → InPlace g g.entry i → is_call i ≡ false
  pub leaves : (h : History) (n : ℕ) (a : Option Operand) → Path g h n [] (Return a) → place_of h ≢ Some g.entry
  pub zeroes : (p object words : ℕ) → InPlace g p (Zero object words) → words ≤ most_words
  pub copies : (p object bytes words : ℕ) → InPlace g p (CopyWords object bytes words) → words ≤ most_words
  pub zeroes_first : (h : History) (n : ℕ) (object words : ℕ) (rest : List Instruction) (e : End)
      → Path g h n (Zero object words ∷ rest) e → called h ≡ false
  pub copies_first : (h : History) (n : ℕ) (object bytes words : ℕ) (rest : List Instruction) (e : End)
      → Path g h n (CopyWords object bytes words ∷ rest) e → called h ≡ false

-- Each graph of a unit keeps this.
abbrev pub KeepTime : UnitForm → Type 0
KeepTime u = (k : ℕ) (g : Graph) → slice_get u.graphs k ≡ Some g → KeepsTime g
