-- The four problems of data flow of lazy code motion, in words of 64 computations for each block.
use Rattle.std.specs.Prelude.{◌≡◌, ◌↔◌, ℕ, ◌<◌, ◌&&◌, ◌||◌, not, Bool, true, Some, List, length, slice_get, slice_index_or}
use Rattle.graph_core.specs.Graphs.{Block}
use Rattle.graph_core.specs.Computations.{Computation}
use Rattle.motion_pass_points.specs.declared.columns.Local.{Local}
use Rattle.motion_pass_points.specs.Words.{has}
use Rattle.motion_pass_points.specs.MotionPointsComputing.{nothing, told_along}
use Rattle.motion_pass_points.specs.Columns.{told_in}
use Rattle.motion_pass_problems.specs.declared.flow.Passage.{Passage}
use Rattle.motion_pass_problems.specs.Flowing.{FlowsBy, HasEdge, IsBrought, is_at, lets_pass, makes, no_passage}
use Rattle.motion_pass_problems.specs.Facts.{AreFacts, ArePast, AreReached, AreUnhadEnds, AreUnsafeEnds, AreUnsafeStarts, AreWanted}

-- of no block
abbrev pub no_local : Local
no_local = record { first = 0; last = 0; done = 0; written = 0 }

-- what the block of a number does
abbrev pub local_of : List Local → ℕ → Local
local_of locals n = slice_index_or locals n no_local

-- what lets the block of a number pass
abbrev pub passage_of : List Passage → ℕ → Passage
passage_of passages n = slice_index_or passages n no_passage

-- What is not down-safe: a block makes it that writes an operand before it computes, and lets it pass unless it
-- computes first.
pub record IsUnsafePassage (l : Local) (p : Passage) : Type 0 where
  pub made : (k : ℕ) → has p.made k ≡ (has l.written k && not (has l.first k))
  pub passed : (k : ℕ) → has p.passed k ≡ not (has l.first k)

-- What is neither down-safe nor up-safe: a block makes it that writes an operand and does not compute behind that, and
-- lets it pass where it is not down-safe at its end.
pub record IsUnhadPassage (l : Local) (unsafe : ℕ) (p : Passage) : Type 0 where
  pub made : (k : ℕ) → has p.made k ≡ ((has unsafe k && not (has l.last k)) && has l.written k)
  pub passed : (k : ℕ) → has p.passed k ≡ (has unsafe k && not (has l.last k))

-- What can't be delayed further: a block makes it that computes last, or writes an operand where it is not down-safe;
-- unless it is earliest at its end.
pub record IsPastPassage (l : Local) (unsafe unhad : ℕ) (p : Passage) : Type 0 where
  pub made : (k : ℕ) → has p.made k ≡ ((has l.last k || (has l.written k && has unsafe k)) && not (has unhad k))
  pub passed : (k : ℕ) → has p.passed k ≡ (not (has l.written k) && not (has unhad k))

-- What is used: a block makes it that computes first what can't be delayed to it, and lets it pass where it does not
-- compute, and it can't be delayed to its end.
pub record IsUsedPassage (l : Local) (past_start past_end : ℕ) (p : Passage) : Type 0 where
  pub made : (k : ℕ) → has p.made k ≡ (has l.first k && has past_start k)
  pub passed : (k : ℕ) → has p.passed k ≡ (has past_end k && not (has l.done k))

-- to each block come just the facts that some way brings to it
abbrev pub AreBroughtBy : (blocks : List Block) (reached : ℕ → Bool) (forward : Bool) (passages : List Passage)
    (begins words : List ℕ)
    → Type 0
AreBroughtBy blocks reached forward passages begins words =
    (k n : ℕ) → n < length words
    → (is_at words k n ≡ true) ↔ IsBrought (FlowsBy blocks reached forward) (makes passages k)
    (lets_pass passages k) (is_at begins k) n

-- Just the blocks are told that paths reach, and none of these leads to the first; and the words for them tell what
-- they do to the computation of a number.
pub record AreTold (blocks : List Block) (reached : ℕ → Bool) (locals : List Local) (k : ℕ) (e : Computation)
    : Type 0 where
  pub whole : AreReached blocks reached
  pub once : (m : ℕ) → HasEdge blocks reached m 0 → ⊥
  pub told : (n : ℕ) (b : Block) → slice_get blocks n ≡ Some b → reached n ≡ true
      → told_in (local_of locals n) k ≡ told_along e b.instructions nothing

-- a passage for each block
pub record AreUnsafePassages (count : ℕ) (locals : List Local) (passages : List Passage) : Type 0 where
  pub size : length passages ≡ count
  pub each : (n : ℕ) → n < count → IsUnsafePassage (local_of locals n) (passage_of passages n)

pub record AreUnhadPassages (count : ℕ) (locals : List Local) (unsafe : List ℕ) (passages : List Passage) : Type 0 where
  pub size : length passages ≡ count
  pub each : (n : ℕ) → n < count
      → IsUnhadPassage (local_of locals n) (slice_index_or unsafe n 0) (passage_of passages n)

pub record ArePastPassages (count : ℕ) (locals : List Local) (unsafe unhad : List ℕ) (passages : List Passage)
    : Type 0 where
  pub size : length passages ≡ count
  pub each : (n : ℕ) → n < count
      → IsPastPassage (local_of locals n) (slice_index_or unsafe n 0) (slice_index_or unhad n 0) (passage_of passages n)

pub record AreUsedPassages (count : ℕ) (locals : List Local) (past_starts past_ends : List ℕ) (passages : List Passage)
    : Type 0 where
  pub size : length passages ≡ count
  pub each : (n : ℕ) → n < count
      → IsUsedPassage (local_of locals n) (slice_index_or past_starts n 0) (slice_index_or past_ends n 0)
      (passage_of passages n)

-- what leaves blocks, to which words come
abbrev pub AreLeaving : List Passage → (comes words : List ℕ) → Type 0
AreLeaving passages comes words =
    (n k : ℕ) → is_at words k n ≡ (makes passages k n || (is_at comes k n && lets_pass passages k n))

module _ (blocks : List Block) (reached : ℕ → Bool) (locals : List Local) where
  -- THE FIRST PROBLEM: the words tell where computations are not down-safe at the ends of blocks.
  abbrev pub TellUnsafeEnds : (words : List ℕ) → Type 0
  TellUnsafeEnds words =
      (k : ℕ) (e : Computation) → AreTold blocks reached locals k e → AreUnsafeEnds blocks reached e (is_at words k)

  -- and at their starts
  abbrev pub TellUnsafeStarts : (words : List ℕ) → Type 0
  TellUnsafeStarts words =
      (k : ℕ) (e : Computation) → AreTold blocks reached locals k e → AreUnsafeStarts blocks reached e (is_at words k)

  -- THE SECOND PROBLEM: where they are neither down-safe nor up-safe there.
  abbrev pub TellUnhadEnds : (words : List ℕ) → Type 0
  TellUnhadEnds words =
      (k : ℕ) (e : Computation) → AreTold blocks reached locals k e → AreUnhadEnds blocks reached e (is_at words k)

  -- THE THIRD PROBLEM: to which starts of blocks, and which edges from their ends, they can't be delayed.
  abbrev pub TellPast : (unsafe_starts unhad_ends starts ends : List ℕ) → Type 0
  TellPast unsafe_starts unhad_ends starts ends =
      (k : ℕ) (e : Computation) → AreTold blocks reached locals k e
      → ArePast blocks reached e (is_at unsafe_starts k) (is_at unhad_ends k) (is_at starts k) (is_at ends k)

  -- THE FOURTH PROBLEM: from which starts of blocks on, and behind which ends, their values are used; where the words
  -- of the others tell what is so of them.
  abbrev pub TellUsed : (past_starts past_ends starts ends : List ℕ) → Type 0
  TellUsed past_starts past_ends starts ends =
      (unsafe_ends unsafe_starts unhad_ends : List ℕ) → TellUnsafeEnds unsafe_ends → TellUnhadEnds unhad_ends
      → TellPast unsafe_starts unhad_ends past_starts past_ends
      → (k : ℕ) (e : Computation) → AreTold blocks reached locals k e
      → AreWanted blocks reached e (is_at starts k) (is_at ends k)

  -- ALL FOUR: what is so of each computation at each block is just what the rule says.
  abbrev pub TellFacts : (unsafe_starts past_starts past_ends used_starts used_ends : List ℕ) → Type 0
  TellFacts unsafe_starts past_starts past_ends used_starts used_ends =
      (k : ℕ) (e : Computation) → AreTold blocks reached locals k e
      → AreFacts blocks reached e (is_at unsafe_starts k) (is_at past_starts k) (is_at past_ends k)
      (is_at used_starts k) (is_at used_ends k)
