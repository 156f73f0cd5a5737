-- What names what there is still does in a graph with more names and other blocks, where functions keep their parameters and the log only grew.
use Rattle.std.proofs.Common.{ℕ, ◌≤◌, Option, Some, None, List, length, arith}
use Rattle.std.specs.Prelude.{slice_get}
use Rattle.std.specs.List.{AllByRecursion}
use Rattle.graph_core.specs.declared.instruction.Callee.{Callee}
use Rattle.graph_core.specs.declared.instruction.Callee.TheVariants.{Function, Getchar, Putchar, Exit}
use Rattle.graph_core.specs.Graphs.{Operand, Name, Constant, StaticAddress, Recipe, Of, Truncated, Operated, NoteValue, Is, Gone, Location, Automatic, Static, At, Instruction, Marker, Note, Move, Operate, Truncate, Same, Address, Load, Store, Zero, CopyWords, Call, End, Block, Graph, UnitForm, Logged}
use Rattle.graph_core.specs.Validity.{HasParameters, IsCall, IsWanted, IsOperand, AreOperandsOf, IsLocation, AreOperandsOfEnd, IsNoteValue, IsInstruction}
use Rattle.motion_pass.specs.Grown.{stays, is_replaced, AreGrown, ends, adds, turns, IsGrownEnd, returns, jumps, branches}
use Rattle.motion_pass.proofs.Lists.{all_so}

-- a graph with another count of names and other blocks
abbrev pub grown_graph : Graph → ℕ → List Block → Graph
grown_graph g count blocks = record g { name_count = count; blocks = blocks }

-- a unit with other graphs and another log
abbrev pub with_graphs : UnitForm → List Graph → List Logged → UnitForm
with_graphs u graphs log = record u { graphs = graphs; log = log }

-- functions by their number have as many parameters as before
abbrev pub KeepParameters : (gs hs : List Graph) → Type 0
KeepParameters gs hs = (f count : ℕ) → HasParameters (slice_get gs f) count → HasParameters (slice_get hs f) count

module _ (u : UnitForm) (hs : List Graph) (log : List Logged) (parameters : KeepParameters u.graphs hs) (grown : length u.log ≤ length log) (g : Graph) (count : ℕ) (blocks : List Block) (more : g.name_count ≤ count) where
  -- An operand still names what there is.
  operand_stays : (a : Operand) → IsOperand u.statics g a → IsOperand u.statics (grown_graph g count blocks) a
  operand_stays (Name x) h = omega (arith, h, more)
  operand_stays (Constant word) h = tt
  operand_stays (StaticAddress object offset) h = h

  -- So do all operands of a call.
  operands_stay : (all : List Operand) → AllByRecursion (IsOperand u.statics g) all → AllByRecursion (IsOperand u.statics (grown_graph g count blocks)) all
  operands_stay = all_so (IsOperand u.statics g) (IsOperand u.statics (grown_graph g count blocks)) operand_stays

  -- So does a location.
  location_stays : (l : Location) → IsLocation u.statics g l → IsLocation u.statics (grown_graph g count blocks) l
  location_stays (Automatic object offset) h = h
  location_stays (Static object) h = h
  location_stays (At a) h = operand_stays a h

  -- So does a recipe.
  recipe_stays : (r : Recipe) → AreOperandsOf u.statics g r → AreOperandsOf u.statics (grown_graph g count blocks) r
  recipe_stays (Of a) h = operand_stays a h
  recipe_stays (Truncated t r) h = recipe_stays r h
  recipe_stays (Operated o r s) h = (recipe_stays r h.0, recipe_stays s h.1)

  -- What a note says is still so: its recipe stays, and its change is one of the longer log.
  note_stays : (v : NoteValue) → IsNoteValue u g v → IsNoteValue (with_graphs u hs log) (grown_graph g count blocks) v
  note_stays (Is r) h = (recipe_stays r h.0, h.1)
  note_stays (Gone change) h = (h.0, omega (arith, h.1, grown))

  -- A call that has as many arguments as what it calls takes still has.
  call_stays : (f : Callee) (arguments : ℕ) → IsCall u.graphs f arguments → IsCall hs f arguments
  call_stays (Function f) arguments h = parameters f arguments h
  call_stays Getchar arguments h = h
  call_stays Putchar arguments h = h
  call_stays Exit arguments h = h

  -- The target of a call, if it has one, is still a name of the graph.
  target_stays : (x : Option ℕ) → IsWanted g x → IsWanted (grown_graph g count blocks) x
  target_stays None h = tt
  target_stays (Some x) h = omega (arith, h, more)

  -- So does an instruction.
  pub instruction_stays : (i : Instruction) → IsInstruction u g i → IsInstruction (with_graphs u hs log) (grown_graph g count blocks) i
  instruction_stays (Marker p) h = tt
  instruction_stays (Note x v) h = (h.0, note_stays v h.1)
  instruction_stays (Move x a) h = (omega (arith, h.0, more), operand_stays a h.1)
  instruction_stays (Operate x o a b) h = (omega (arith, h.0, more), operand_stays a h.1, operand_stays b h.2)
  instruction_stays (Truncate x t a) h = (omega (arith, h.0, more), operand_stays a h.1)
  instruction_stays (Same x a b) h = (omega (arith, h.0, more), operand_stays a h.1, operand_stays b h.2)
  instruction_stays (Address x object) h = (omega (arith, h.0, more), h.1)
  instruction_stays (Load x e l) h = (omega (arith, h.0, more), location_stays l h.1)
  instruction_stays (Store e l a) h = (location_stays l h.0, operand_stays a h.1)
  instruction_stays (Zero object words) h = h
  instruction_stays (CopyWords object bytes words) h = h
  instruction_stays (Call x f all) h = (target_stays x h.0, operands_stay all h.1, call_stays f (length all) h.2)

  -- Instructions name what there is with the computations that are added between them.
  pub instructions_grown : (is js : List Instruction) → AreGrown (IsInstruction (with_graphs u hs log) (grown_graph g count blocks)) is js → AllByRecursion (IsInstruction u g) is → AllByRecursion (IsInstruction (with_graphs u hs log) (grown_graph g count blocks)) js
  instructions_grown _ _ ends h = tt
  instructions_grown is _ (adds {after = js} added later) h = (added.may, instructions_grown is js later h)
  instructions_grown _ _ (turns {before = is} {after = js} (stays {i}) later) h = (instruction_stays i h.0, instructions_grown is js later h.1)
  instructions_grown _ _ (turns {before = is} {after = js} (is_replaced one other may) later) h = (may, instructions_grown is js later h.1)

  -- So does an end.
  pub end_grown : (place : Option ℕ) (e f : End) → IsGrownEnd (IsInstruction (with_graphs u hs log) (grown_graph g count blocks)) blocks place e f → AreOperandsOfEnd u.statics g e → AreOperandsOfEnd u.statics (grown_graph g count blocks) f
  end_grown place _ _ (returns {a = None}) h = tt
  end_grown place _ _ (returns {a = Some a}) h = operand_stays a h
  end_grown place _ _ jumps h = tt
  end_grown place _ _ (branches {a = a} {b} one two) h = (operand_stays a h.0, operand_stays b h.1)
