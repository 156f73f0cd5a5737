-- The unit of a small program, and what a pass makes of it: by them the definitions are seen to be met, and to refuse
-- what they should. The program is `int main(void) { int x = 2; return x; }`. Place 1 is the entry, 2 the declarator
-- and 3 the return.
use Rattle.std.specs.Prelude.{◌≢◌, ℕ, ◌<◌, List, [], ◌∷◌, length, Option, Some, None}
use Rattle.debug_records.specs.declared.change.PassName.{PassName}
use Rattle.debug_records.specs.declared.change.Kind.TheVariants.{Removed, Sunk}
use Rattle.memory_map.specs.declared.map.Room.TheVariants.{Small}
use Rattle.places.specs.declared.flow.FlowStep.{FlowStep}
use Rattle.places.specs.declared.flow.Assignment.{Assignment}
use Rattle.graph_homes.specs.declared.home.Home.{Home}
use Rattle.graph_core.specs.declared.instruction.Callee.TheVariants.{Putchar}
use Rattle.graph_core.specs.Graphs.{Operand, Name, Constant, Of, Is, Instruction, Marker, Note, Move, Call, End, Jump, Return, Block, Scalar, Graph, Logged, UnitForm}
use Rattle.graph_core.specs.WellMarked.{AreWellMarked}
use Rattle.pass_law.specs.Keeps.{Keeps}
use Rattle.pass_law.specs.Earned.{IsEarned}
use Rattle.pass_law.specs.Logs.{most_changes, LogsWell}

-- execution may go from the one place to the other
abbrev pub step : (from to : ℕ) → FlowStep
step from to = record { from = record { 0 = from }; to = record { 0 = to } }

-- a place assigns a variable
abbrev pub assignment : (place variable : ℕ) → Assignment
assignment place variable = record { place = record { 0 = place }; var = record { 0 = variable } }

-- a scalar of type `int` that is declared in place 2
abbrev pub scalar : (variable : ℕ) → Scalar
scalar variable = record { variable = variable; of = 0; place = 2 }

-- a block, and the place that it keeps
abbrev pub block : Option ℕ → List Instruction → End → Block
block place instructions end = record { place = place; instructions = instructions; end = end }

-- The block of the entry, and that of the return.
abbrev pub entry_block : Block
entry_block = block None (Marker 1 ∷ []) (Jump 1)

-- the block of the return, with what is returned
abbrev pub return_block : Operand → Block
return_block returned = block (Some 2) (Marker 3 ∷ []) (Return (Some returned))

-- The graph of `main`: its entry, the block of the declarator, that of the return, with what is returned, and blocks
-- behind them.
abbrev pub main_with : List Instruction → Operand → (behind : List Block) → Graph
main_with assigns returned behind = record {
  entry = 1;
  parameters = [];
  scalars = scalar 0 ∷ [];
  objects = [];
  name_count = 1;
  first_moved = 1;
  blocks = entry_block ∷ block (Some 1) assigns (Jump 2) ∷ return_block returned ∷ behind;
}

-- the graph with no block behind those three
abbrev pub main_of : List Instruction → Operand → Graph
main_of assigns returned = main_with assigns returned []

-- A block to which nothing leads. It keeps the place of the declarator, notes x to be x, whatever the other block of
-- that place says, and puts it out.
abbrev pub unreached : List Instruction
unreached = Note 0 (Is (Of (Name 0))) ∷ Call None Putchar (Name 0 ∷ []) ∷ []

-- that block
abbrev pub unreached_block : Block
unreached_block = block (Some 2) unreached (Jump 2)

-- the unit of `main` alone
abbrev pub unit_of : Graph → List Logged → UnitForm
unit_of g log = record {
  graphs = g ∷ [];
  main = 0;
  statics = [];
  array_bytes = [];
  steps = step 1 2 ∷ step 2 3 ∷ [];
  assignments = assignment 2 0 ∷ [];
  log = log;
  room = Small;
}

-- As it is built: 2 is moved to x, and x is noted to be x.
abbrev pub assigns_two : List Instruction
assigns_two = Marker 2 ∷ Move 0 (Constant 2) ∷ Note 0 (Is (Of (Name 0))) ∷ []

-- the graph as it is built
abbrev pub assigning : Graph
assigning = main_with assigns_two (Name 0) (unreached_block ∷ [])

-- the unit as it is built
abbrev pub built : UnitForm
built = unit_of assigning []

-- Without the assignment: x is noted to be 2, and 2 is returned. What no path reaches stays as it is.
abbrev pub notes_two : List Instruction
notes_two = Marker 2 ∷ Note 0 (Is (Of (Constant 2))) ∷ []

-- the graph without the assignment, with what is returned
abbrev pub noting_with : Operand → Graph
noting_with returned = main_with notes_two returned (unreached_block ∷ [])

-- the graph in which 2 is returned
abbrev pub noting : Graph
noting = noting_with (Constant 2)

-- a change by which a pass removed an assignment of a variable in a place
abbrev pub removal_in : PassName → (place variable : ℕ) → Logged
removal_in pass place variable = record { pass = pass; kind = Removed; place = place; variable = variable }

-- the change by which a pass removed the assignment
abbrev pub removal : PassName → Logged
removal pass = removal_in pass 2 0

-- the change by which a pass would have sunk the assignment
abbrev pub sinking : PassName → Logged
sinking pass = record { pass = pass; kind = Sunk; place = 2; variable = 0 }

-- the unit without the assignment
abbrev pub reduced : PassName → UnitForm
reduced pass = unit_of noting (removal pass ∷ [])

-- Both units are well marked, the second keeps what the first does, its change is one that a pass may log, and it is
-- earned wherever the names of each function are kept.
pub record AreWorked (pass : PassName) : Type 0 where
  pub marked : AreWellMarked built
  pub still_marked : AreWellMarked (reduced pass)
  pub keeps : Keeps built (reduced pass)
  pub logs : LogsWell pass built (reduced pass)
  pub earned : (homes : (function : ℕ) → ℕ → Home)
      → IsEarned (removal pass) (removal pass ∷ []) homes built (reduced pass)

-- The graph without the assignment, in which x is noted to be x all the same.
abbrev pub notes_itself : List Instruction
notes_itself = Marker 2 ∷ Note 0 (Is (Of (Name 0))) ∷ []

-- that graph
abbrev pub noting_itself : Graph
noting_itself = main_with notes_itself (Constant 2) (unreached_block ∷ [])

-- the unit as it is built, with this log
abbrev pub logging : List Logged → UnitForm
logging log = unit_of assigning log

-- What no pass of a name logs, though the graphs stay as they are: a change of the place 0, which no marker begins; a
-- change of a variable that is no scalar; one by another name; one of the kind Sunk; and more changes than a unit of
-- the smaller room may get.
pub record NoPassLogs (pass : PassName) : Type 0 where
  pub placeless : LogsWell pass built (logging (removal_in pass 0 0 ∷ [])) → ⊥
  pub no_scalar : LogsWell pass built (logging (removal_in pass 2 1 ∷ [])) → ⊥
  pub by_another : (other : PassName) → other ≢ pass → LogsWell pass built (logging (removal_in other 2 0 ∷ [])) → ⊥
  pub sunk : LogsWell pass built (logging (sinking pass ∷ [])) → ⊥
  pub too_many : (log : List Logged) → most_changes Small < length log → LogsWell pass built (logging log) → ⊥

-- What is no such pass. A removal that is not logged leaves a unit that is not well marked, and is not earned. Nor is a
-- unit well marked where a note is of the scalar itself and a path comes to it with no write of the scalar. And where
-- another value is returned, the unit does not keep what the first one does.
pub record AreNotWorked (pass : PassName) : Type 0 where
  pub unlogged : AreWellMarked (unit_of noting []) → ⊥
  pub not_earned : (homes : (function : ℕ) → ℕ → Home) → IsEarned (removal pass) [] homes built (unit_of noting []) → ⊥
  pub noted : AreWellMarked (unit_of noting_itself (removal pass ∷ [])) → ⊥
  pub returned : Keeps built (unit_of (noting_with (Constant 3)) (removal pass ∷ [])) → ⊥
