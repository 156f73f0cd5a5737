-- How many instructions blocks count, and of what names their computations are made.
use Rattle.std.specs.Prelude.{ℕ, ◌<◌, List}
use Rattle.std.specs.List.{AllByRecursion}
use Rattle.graph_core.specs.Graphs.{Block}
use Rattle.graph_core.specs.Computations.{Computation, operands_of}
use Rattle.graph_core.specs.Validity.{counts, total}

-- how many instructions of blocks are counted
abbrev pub counted_in : List Block → ℕ
counted_in blocks = total (λ (b : Block). total counts b.instructions) blocks

-- A computation is made of the first so many names alone, and of constants.
abbrev pub IsNamed : (names : ℕ) → Computation → Type 0
IsNamed names e = AllByRecursion (λ x. x < names) (operands_of e)

-- each of these is
abbrev pub AreNamed : (names : ℕ) → List Computation → Type 0
AreNamed names all = AllByRecursion (IsNamed names) all
