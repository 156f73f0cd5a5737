-- Computations in columns of 64, as bits of words.
use Rattle.std.specs.Prelude.{◌≡◌, ℕ, ◌/◌, ◌==◌, Bool, true, false, Option, Some, None, List, slice_get, slice_index_or}
use Rattle.std.specs.List.{list_any}
use Rattle.std.specs.Option.{option_map_or}
use Rattle.graph_core.specs.Graphs.{Instruction}
use Rattle.graph_core.specs.Computations.{Computation, computed_by, operands_of}
use Rattle.motion_pass_points.specs.declared.columns.Local.{Local}
use Rattle.motion_pass_points.specs.Words.{has}
use Rattle.motion_pass_points.specs.MotionPointsComputing.{Told}
use Rattle.motion_pass_points.specs.Numbers.{IsNumberOf}

-- a name is among these operands
abbrev pub is_among : ℕ → List ℕ → Bool
is_among x names = list_any (λ y. x == y) names

-- a word for each name: whether a number is in that of a name; none is outside
abbrev pub is_marked : (words : List ℕ) (x n : ℕ) → Bool
is_marked words x n = has (slice_index_or words x 0) n

-- a name is an operand of the computation of a number
abbrev pub is_operand : List Computation → (n x : ℕ) → Bool
is_operand all n x = option_map_or (λ e. is_among x (operands_of e)) (slice_get all n) false

-- each name is marked with the numbers of the computations of a column of which it is an operand
abbrev pub IsColumn : List Computation → (index : ℕ) → (spoiled : List ℕ) → Type 0
IsColumn all index spoiled = (x n : ℕ) → n / 64 ≡ index → is_marked spoiled x n ≡ is_operand all n x

-- what words tell of the computation of a number
abbrev pub told_in : Local → (n : ℕ) → Told
told_in l n = record { first = has l.first n; last = has l.last n; done = has l.done n; written = has l.written n }

-- it is this number
abbrev pub is_number : (n : ℕ) → Option ℕ → Bool
is_number n o = option_map_or (λ k. k == n) o false

-- what is written is marked with this number
abbrev pub is_spoiled : (spoiled : List ℕ) (n : ℕ) → Option ℕ → Bool
is_spoiled spoiled n target = option_map_or (λ x. is_marked spoiled x n) target false

-- the number at an index, if there is one
abbrev pub number_at : List (Option ℕ) → (index : ℕ) → Option ℕ
number_at numbers index = slice_index_or numbers index None

-- instructions with the numbers of what they compute
abbrev pub AreNumbersAlong : List Computation → List Instruction → List (Option ℕ) → Type 0
AreNumbersAlong all instructions numbers =
    (index : ℕ) (i : Instruction) → slice_get instructions index ≡ Some i
    → IsNumberOf all (computed_by i) (number_at numbers index)
