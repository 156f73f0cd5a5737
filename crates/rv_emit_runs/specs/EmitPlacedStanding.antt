-- A function as its words stand in the code of the machine.
use Rattle.std.specs.Prelude.{◌≡◌, ℕ, ◌+◌, ◌≤◌, ◌<◌, false, Some, List, ◌++◌, length, map, slice_get, slice_index, get_or}
use Rattle.std.specs.List.{AllByRecursion}
use Rattle.memory_map.specs.declared.map.Map.{Map}
use Rattle.memory_map.specs.Maps.{most_words}
use Rattle.rv_code.specs.InForm.{IsInForm, IsRegister}
use Rattle.rv_machine.specs.Run.{is_stop}
use Rattle.rv_emit_words.specs.declared.piece.Piece.{Piece}
use Rattle.rv_emit_words.specs.declared.piece.Piece.TheVariants.{Word, Jump, Branch, Call}
use Rattle.rv_emit_words.specs.declared.piece.PlacedPiece.{PlacedPiece}
use Rattle.rv_emit_steps.specs.Programs.{address_of}
use Rattle.rv_emit_runs.specs.Pieces.{Targets}
use Rattle.rv_emit_sequence.specs.Sequences.{SequenceForm}
use Rattle.rv_emit_layout.specs.declared.layout.OwnedWord.{OwnedWord}
use Rattle.rv_emit_layout.specs.declared.reaching.Reach.TheVariants.{Near}
use Rattle.rv_emit_layout.specs.Reaches.{width}
use Rattle.rv_emit_layout.specs.Layouts.{LayoutForm, function_words, label_at, words_before}

-- Words can spell a piece: its instruction, or the registers of its branch.
abbrev pub IsSpelled : Piece → Type 0
IsSpelled (Word i) = IsInForm i
IsSpelled (Jump to) = Unit {0}
IsSpelled (Branch op l r to) = IsRegister l × IsRegister r
IsSpelled (Call f) = Unit {0}

abbrev pub AreSpelled : List PlacedPiece → Type 0
AreSpelled pieces = AllByRecursion (λ (x : PlacedPiece). IsSpelled x.piece) pieces

-- The words of a function stand among those of the code, behind so many others, and belong to places as its pieces do.
pub record StandsIn (regions : Map) (all own : List ℕ) (s : SequenceForm) (l : LayoutForm) (first : ℕ) (firsts : List ℕ)
    : Type 0 where
  pub before : List OwnedWord
  pub behind : List OwnedWord
  pub words : all ≡ map (λ (w : OwnedWord). w.word) (before ++ (function_words s l first firsts ++ behind))
  pub owners : own ≡ map (λ (w : OwnedWord). w.owner) (before ++ (function_words s l first firsts ++ behind))
  pub begin : length before ≡ first
  pub low : first + words_before l.reaches s.pieces (length s.pieces) ≤ most_words regions
  pub functions : (f : ℕ) → slice_index firsts f ≤ most_words regions

-- There is a stop at the first word of each piece that is one, and at no other word of the function.
pub record HasStops (stops : List ℕ) (s : SequenceForm) (l : LayoutForm) (first : ℕ) : Type 0 where
  pub one : (k : ℕ) (x : PlacedPiece) → slice_get s.pieces k ≡ Some x
      → is_stop stops (address_of (first + words_before l.reaches s.pieces k)) ≡ x.is_stop
  pub later : (k j : ℕ) (x : PlacedPiece) → slice_get s.pieces k ≡ Some x → 1 ≤ j
      → j < width (get_or l.reaches k Near) x.piece
      → is_stop stops (address_of (first + words_before l.reaches s.pieces k + j)) ≡ false

-- Where its labels stand in the code, where functions do, and whose the words are.
abbrev pub targets_of : (owners : List ℕ) → SequenceForm → LayoutForm → (first : ℕ) → (firsts : List ℕ) → Targets
targets_of owners s l first firsts =
    record {
      label = λ b. first + label_at s.labels l.offsets b;
      function = λ f. slice_index firsts f;
      owner = λ i. slice_index owners i;
    }
