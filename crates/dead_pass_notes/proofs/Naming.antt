-- What names what there is still does in a graph with other blocks, where functions keep their parameters and the log only grew.
use Rattle.std.proofs.Common.{◌≡◌, ℕ, ◌≤◌, Some, None, List, [], ◌∷◌, length, sym, subst, arith}
use Rattle.std.specs.Prelude.{slice_get}
use Rattle.std.specs.List.{AllByRecursion}
use Rattle.event_runs.specs.Agreement.{Pairs}
use Rattle.graph_core.specs.declared.instruction.Callee.{Callee}
use Rattle.graph_core.specs.declared.instruction.Callee.TheVariants.{Function, Getchar, Putchar, Exit}
use Rattle.graph_core.specs.Graphs.{Operand, Name, Constant, StaticAddress, Recipe, Of, Truncated, Operated, NoteValue, Is, Gone, Location, Automatic, Static, At, Instruction, Marker, Note, Move, Operate, Truncate, Same, Address, Load, Store, Zero, CopyWords, Call, End, Jump, Branch, Return, Block, Graph, UnitForm, Logged}
use Rattle.graph_core.specs.Validity.{HasParameters, IsCall, IsOperand, AreOperandsOf, IsLocation, AreOperandsOfEnd, IsNoteValue, IsInstruction}
use Rattle.dead_pass_notes.specs.Thinned.{AreThinned, ends, goes, forgets, says, stays, IsThinned}
use Rattle.dead_pass_notes.proofs.Lists.{carried_at}

-- a graph with other blocks
abbrev pub with_blocks : Graph → List Block → Graph
with_blocks g blocks = record g { blocks = blocks }

-- a unit with another log
abbrev pub with_log : UnitForm → List Logged → UnitForm
with_log u log = record u { log = log }

-- a unit with other graphs and another log
abbrev pub with_graphs : UnitForm → List Graph → List Logged → UnitForm
with_graphs u graphs log = record u { graphs = graphs; log = log }

-- what a note of a graph may say where the log is this one
abbrev pub MayBeSaid : UnitForm → List Logged → Graph → NoteValue → Type 0
MayBeSaid u log g w = IsNoteValue (with_log u log) g w

-- Functions by their number have as many parameters as before.
pub same_parameters : (MaySay : Graph → NoteValue → Type 0) (gs hs : List Graph) → Pairs (IsThinned MaySay) gs hs → (f count : ℕ) → HasParameters (slice_get gs f) count → HasParameters (slice_get hs f) count
same_parameters MaySay gs hs all f count h = carried_at (IsThinned MaySay) (λ o. HasParameters o count) (λ o. HasParameters o count) (λ none. none) one gs hs all f h
  where
    one : (g h : Graph) → IsThinned MaySay g h → count ≡ length g.parameters → count ≡ length h.parameters
    one g h s e = subst (λ (k : Graph). count ≡ length k.parameters) (sym s.rest) e

-- What a note said may be said still: its change is one of the longer log.
pub still_said : (u : UnitForm) (log : List Logged) → length u.log ≤ length log → (g : Graph) (v : NoteValue) → IsNoteValue u g v → MayBeSaid u log g v
still_said u log grown g (Is r) h = h
still_said u log grown g (Gone change) h = (h.0, omega (arith, h.1, grown))

module _ (u : UnitForm) (hs : List Graph) (log : List Logged) (graphs : Pairs (IsThinned (MayBeSaid u log)) u.graphs hs) (grown : length u.log ≤ length log) (g : Graph) (blocks : List Block) where
  -- An operand still names what there is.
  operand_stays : (a : Operand) → IsOperand u.statics g a → IsOperand u.statics (with_blocks g blocks) a
  operand_stays (Name x) h = h
  operand_stays (Constant word) h = tt
  operand_stays (StaticAddress object offset) h = h

  -- So do all operands of a call.
  operands_stay : (all : List Operand) → AllByRecursion (IsOperand u.statics g) all → AllByRecursion (IsOperand u.statics (with_blocks g blocks)) all
  operands_stay [] h = tt
  operands_stay (a ∷ all) h = (operand_stays a h.0, operands_stay all h.1)

  -- So does a location.
  location_stays : (l : Location) → IsLocation u.statics g l → IsLocation u.statics (with_blocks g blocks) l
  location_stays (Automatic object offset) h = h
  location_stays (Static object) h = h
  location_stays (At a) h = operand_stays a h

  -- So does the end of a block.
  pub end_stays : (e : End) → AreOperandsOfEnd u.statics g e → AreOperandsOfEnd u.statics (with_blocks g blocks) e
  end_stays (Jump l) h = tt
  end_stays (Branch k a b l m) h = (operand_stays a h.0, operand_stays b h.1)
  end_stays (Return None) h = tt
  end_stays (Return (Some a)) h = operand_stays a h

  -- So does a recipe.
  recipe_stays : (r : Recipe) → AreOperandsOf u.statics g r → AreOperandsOf u.statics (with_blocks g blocks) r
  recipe_stays (Of a) h = operand_stays a h
  recipe_stays (Truncated t r) h = recipe_stays r h
  recipe_stays (Operated o r s) h = (recipe_stays r h.0, recipe_stays s h.1)

  -- What may be said by the longer log is so in the unit after.
  said_stays : (v : NoteValue) → MayBeSaid u log g v → IsNoteValue (with_graphs u hs log) (with_blocks g blocks) v
  said_stays (Is r) h = (recipe_stays r h.0, h.1)
  said_stays (Gone change) h = h

  -- A call that has as many arguments as what it calls takes still has.
  call_stays : (f : Callee) (arguments : ℕ) → IsCall u.graphs f arguments → IsCall hs f arguments
  call_stays (Function f) arguments h = same_parameters (MayBeSaid u log) u.graphs hs graphs f arguments h
  call_stays Getchar arguments h = h
  call_stays Putchar arguments h = h
  call_stays Exit arguments h = h

  -- An instruction still names what there is.
  instruction_stays : (i : Instruction) → IsInstruction u g i → IsInstruction (with_graphs u hs log) (with_blocks g blocks) i
  instruction_stays (Marker p) h = tt
  instruction_stays (Note x v) h = (h.0, said_stays v (still_said u log grown g v h.1))
  instruction_stays (Move x a) h = (h.0, operand_stays a h.1)
  instruction_stays (Operate x o a b) h = (h.0, operand_stays a h.1, operand_stays b h.2)
  instruction_stays (Truncate x t a) h = (h.0, operand_stays a h.1)
  instruction_stays (Same x a b) h = (h.0, operand_stays a h.1, operand_stays b h.2)
  instruction_stays (Address x object) h = h
  instruction_stays (Load x e l) h = (h.0, location_stays l h.1)
  instruction_stays (Store e l a) h = (location_stays l h.0, operand_stays a h.1)
  instruction_stays (Zero object words) h = h
  instruction_stays (CopyWords object bytes words) h = h
  instruction_stays (Call None f all) h = (tt, operands_stay all h.1, call_stays f (length all) h.2)
  instruction_stays (Call (Some x) f all) h = (h.0, operands_stay all h.1, call_stays f (length all) h.2)

  -- What is left of instructions names what there is, where those before did.
  pub instructions_stay : (is js : List Instruction) → AreThinned (MayBeSaid u log g) is js → AllByRecursion (IsInstruction u g) is → AllByRecursion (IsInstruction (with_graphs u hs log) (with_blocks g blocks)) js
  instructions_stay is js ends h = tt
  instructions_stay is js (goes {i} {before} {after} computed later) h = instructions_stay before after later h.1
  instructions_stay is js (forgets {f} {all} {before} {after} later) h = ((tt, operands_stay all h.0.1, call_stays f (length all) h.0.2), instructions_stay before after later h.1)
  instructions_stay is js (says {w} {before} {after} may later) h = ((h.0.0, said_stays w may), instructions_stay before after later h.1)
  instructions_stay is js (stays {i} {before} {after} later) h = (instruction_stays i h.0, instructions_stay before after later h.1)
