-- Units whose places take bounded time.
use Rattle.std.specs.Prelude.{◌≡◌, ◌≢◌, ℕ, ◌≤◌, false, Option, Some, List, [], ◌∷◌, slice_get}
use Rattle.graph_core.specs.Graphs.{Operand, Instruction, Marker, Zero, CopyWords, End, Return, Block, Graph, UnitForm}
use Rattle.graph_core.specs.Uses.{targets_of}
use Rattle.graph_core.specs.Paths.{History, Among, Path, place_of, is_call, called}
use Rattle.graph_core.specs.Bounds.{most_words}
use Rattle.graph_core.specs.Validity.{IsValid}
use Rattle.graph_core.specs.WellMarked.{ComesToMarker, InPlace}

-- A graph's places take bounded time: it begins with the marker of its entry, to which no edge leads back, and each
-- cycle has a marker; the entry's place has no call, and each path from the entry to an end has another marker; words
-- that are set or copied are few, and precede each call of their place. (These are parts of `IsWellMarked`.)
pub record IsTimed (g : Graph) : Type 0 where
  pub begins : (b : Block) → slice_get g.blocks 0 ≡ Some b
      → (rest : List Instruction) × (b.instructions ≡ Marker g.entry ∷ rest)
  pub first : (n : ℕ) (b : Block) → slice_get g.blocks n ≡ Some b → Among 0 (targets_of b.end) → ⊥
  pub cycles : (n : ℕ) (b : Block) → slice_get g.blocks n ≡ Some b → ComesToMarker g b.instructions b.end
  pub entry_calls : (i : Instruction) → InPlace g g.entry i → is_call i ≡ false
  pub leaves : (h : History) (n : ℕ) (a : Option Operand) → Path g h n [] (Return a) → place_of h ≢ Some g.entry
  pub zeroes : (p object words : ℕ) → InPlace g p (Zero object words) → words ≤ most_words
  pub copies : (p object bytes words : ℕ) → InPlace g p (CopyWords object bytes words) → words ≤ most_words
  pub zeroes_first : (h : History) (n : ℕ) (object words : ℕ) (rest : List Instruction) (e : End)
      → Path g h n (Zero object words ∷ rest) e → called h ≡ false
  pub copies_first : (h : History) (n : ℕ) (object bytes words : ℕ) (rest : List Instruction) (e : End)
      → Path g h n (CopyWords object bytes words ∷ rest) e → called h ≡ false

-- A valid unit whose graphs' places take bounded time.
pub record AreTimed (u : UnitForm) : Type 0 where
  pub valid : IsValid u
  pub graphs : (f : ℕ) (g : Graph) → slice_get u.graphs f ≡ Some g → IsTimed g
