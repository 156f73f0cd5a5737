-- Facts inside a block, from the facts at one of its ends.
use Rattle.std.specs.Prelude.{◌≡◌, ℕ, zero, suc, ◌<◌, ◌&&◌, ◌||◌, ◌↔◌, Bool, true, false, if◌then◌else◌, List, [], ◌∷◌, length, reverse, Some, slice_get}
use Rattle.std.specs.FinSet.{contains, insert, remove}
use Rattle.graph_core.specs.Graphs.{Instruction, End, Block, Graph}
use Rattle.graph_core.specs.Uses.{reads_of_end}
use Rattle.graph_solve_live.specs.declared.inside.Effect.{Effect}
use Rattle.graph_solve_live.specs.declared.inside.Effect.TheVariants.{Sets, Clears, Leaves}
use Rattle.graph_solve_problem.specs.Numbers.{Numbers}
use Rattle.graph_solve_problem.specs.Problem.{DataFlow}
use Rattle.graph_solve_problem.specs.Paths.{ControlFlow, Path, along, Comes}
use Rattle.graph_solve_problem.specs.Meets.{IsMeetOf}
use Rattle.graph_solve.specs.GraphFlow.{graph_flow}
use Rattle.graph_solve_live.specs.Live.{AreLive, IsReadFirst, before_all, with_names}

-- whether a fact is so behind what has this effect on it
abbrev pub effect_on : Effect → (before : Bool) → Bool
effect_on Sets before = true
effect_on Clears before = false
effect_on Leaves before = before

-- the facts with one set, cleared or left
abbrev pub moved_one : Effect → (fact : ℕ) → Numbers → Numbers
moved_one Sets fact facts = insert facts fact
moved_one Clears fact facts = remove facts fact
moved_one Leaves fact facts = facts

-- the facts behind what has such effects on those below the width
abbrev pub moved : (width : ℕ) → (effect : ℕ → Effect) → Numbers → Numbers
moved zero effect facts = facts
moved (suc fact) effect facts = moved_one (effect fact) fact (moved fact effect facts)

-- the facts behind a walk over what has such effects, one after the other
abbrev pub walked : (width : ℕ) → (steps : List (ℕ → Effect)) → Numbers → Numbers
walked width [] facts = facts
walked width (effect ∷ more) facts = walked width more (moved width effect facts)

-- one effect behind another
abbrev pub one_behind : (first next : Effect) → Effect
one_behind first Sets = Sets
one_behind first Clears = Clears
one_behind first Leaves = first

-- what a walk does to a fact in all
abbrev pub in_all : (steps : List (ℕ → Effect)) → (fact : ℕ) → Effect
in_all [] fact = Leaves
in_all (effect ∷ more) fact = one_behind (effect fact) (in_all more fact)

-- what each instruction of a block does to facts, as execution goes, and then the block's end. An instruction is told
-- by how many stand behind it in the block.
abbrev pub steps_in : (effect : (left : ℕ) → Instruction → ℕ → Effect) (at_end : End → ℕ → Effect) → List Instruction
    → End → List (ℕ → Effect)
steps_in effect at_end [] end = at_end end ∷ []
steps_in effect at_end (i ∷ more) end = effect (length more) i ∷ steps_in effect at_end more end

-- the same in the order in which paths of a direction pass them
abbrev pub steps_along : (forward : Bool) (effect : (left : ℕ) → Instruction → ℕ → Effect) (at_end : End → ℕ → Effect)
    → Block → List (ℕ → Effect)
steps_along forward effect at_end block =
    if forward then steps_in effect at_end block.instructions block.end
    else reverse (steps_in effect at_end block.instructions block.end)

-- A block does to each fact of a problem what a walk over these steps does to it.
abbrev pub HasSteps : DataFlow → (block : ℕ) → (steps : List (ℕ → Effect)) → Type 0
HasSteps flow block steps =
    (fact : ℕ) (before : Bool) → fact < flow.width
    → ((before && flow.kept block fact) || flow.written block fact) ≡ effect_on (in_all steps fact) before

-- A walk over all steps of a block leads from the facts at the one end of the block to those at the other.
abbrev pub WalkIsTransfer : DataFlow → Type 0
WalkIsTransfer flow =
    (block : ℕ) (steps : List (ℕ → Effect)) → HasSteps flow block steps → (facts : Numbers) → flow.IsValue facts
    → walked flow.width steps facts ≡ flow.transfer block facts

-- the walk makes these facts of those that come to the block along some path
abbrev pub ComesInside : DataFlow → ControlFlow → (block : ℕ) → (steps : List (ℕ → Effect)) → Numbers → Type 0
ComesInside flow control block steps facts =
    (path : Path control flow.forward block) × (facts ≡ walked flow.width steps (along flow control path))

-- A walk over any steps leads from the meet over all paths to a block to the meet over all paths to the point that the
-- walk comes to: by union the facts that are so there on some path, by intersection those that are so on every path.
abbrev pub WalkIsMet : DataFlow → Type 0
WalkIsMet flow =
    (g : Graph) (block : ℕ) (steps : List (ℕ → Effect)) (facts : Numbers)
    → IsMeetOf flow.meet (Comes flow (graph_flow g) block) facts
    → IsMeetOf flow.meet (ComesInside flow (graph_flow g) block steps) (walked flow.width steps facts)

-- Before what is left of a block just those names of the graph are live that some path from there on reads before it
-- writes them.
abbrev pub IsLiveInside : Type 0
IsLiveInside =
    (g : Graph) (starts ends : List Numbers) → AreLive g starts ends → (n : ℕ) (b : Block) (live : Numbers)
    → slice_get g.blocks n ≡ Some b → slice_get ends n ≡ Some live →
    (rest : List Instruction) (x : ℕ)
    → (contains (before_all g.name_count rest (with_names g.name_count (reads_of_end b.end) live)) x ≡ true) ↔
    ((x < g.name_count) × IsReadFirst g x rest b.end)
