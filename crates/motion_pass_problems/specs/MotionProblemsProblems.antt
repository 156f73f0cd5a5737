-- The four problems over a graph.
use Rattle.std.specs.Prelude.{ℕ, Bool, false, List, length, map, slice_index_or}
use Rattle.graph_core.specs.Graphs.{Block, block_view}
use Rattle.motion_pass_problems.specs.declared.flow.Passage.{Passage}
use Rattle.motion_pass_problems.specs.Problems as problems
use Rattle.motion_pass_problems.specs.declared.problems.Facts.{Facts}
use Rattle.motion_pass_problems.specs.declared.problems.Problems.{Problems}

-- the blocks of a graph, and which of them are told as reached
abbrev pub blocks_of : Problems → List Block
blocks_of p = map block_view p.blocks.now

abbrev pub reached_of : Problems → ℕ → Bool
reached_of p n = slice_index_or p.reached.now n false

-- passages for all blocks
abbrev pub AreUnsafePassages : Problems → List Passage → Type 0
AreUnsafePassages p passages = problems.AreUnsafePassages (length (blocks_of p)) p.locals.now passages

abbrev pub AreUnhadPassages : Problems → (unsafe : List ℕ) → List Passage → Type 0
AreUnhadPassages p unsafe passages = problems.AreUnhadPassages (length (blocks_of p)) p.locals.now unsafe passages

abbrev pub ArePastPassages : Problems → (unsafe unhad : List ℕ) → List Passage → Type 0
ArePastPassages p unsafe unhad passages =
    problems.ArePastPassages (length (blocks_of p)) p.locals.now unsafe unhad passages

abbrev pub AreUsedPassages : Problems → (past_starts past_ends : List ℕ) → List Passage → Type 0
AreUsedPassages p past_starts past_ends passages =
    problems.AreUsedPassages (length (blocks_of p)) p.locals.now past_starts past_ends passages

-- what the words tell of the computations at all blocks
abbrev pub TellUnsafeEnds : Problems → (words : List ℕ) → Type 0
TellUnsafeEnds p words = problems.TellUnsafeEnds (blocks_of p) (reached_of p) p.locals.now words

abbrev pub TellUnsafeStarts : Problems → (words : List ℕ) → Type 0
TellUnsafeStarts p words = problems.TellUnsafeStarts (blocks_of p) (reached_of p) p.locals.now words

abbrev pub TellUnhadEnds : Problems → (words : List ℕ) → Type 0
TellUnhadEnds p words = problems.TellUnhadEnds (blocks_of p) (reached_of p) p.locals.now words

abbrev pub TellPast : Problems → (unsafe_starts unhad_ends starts ends : List ℕ) → Type 0
TellPast p unsafe_starts unhad_ends starts ends =
    problems.TellPast (blocks_of p) (reached_of p) p.locals.now unsafe_starts unhad_ends starts ends

abbrev pub TellUsed : Problems → (past_starts past_ends starts ends : List ℕ) → Type 0
TellUsed p past_starts past_ends starts ends =
    problems.TellUsed (blocks_of p) (reached_of p) p.locals.now past_starts past_ends starts ends

-- THE FACTS ARE THE RULE'S: of each computation at each block that paths reach.
abbrev pub TellFacts : Problems → Facts → Type 0
TellFacts p f =
    problems.TellFacts (blocks_of p) (reached_of p)
    p.locals.now f.unsafe_starts.items f.past_starts.items f.past_ends.items f.used_starts.items f.used_ends.items
