-- What names what there is still does, where it is like it but for what it reads, functions keep their parameters and the log only grew.
use Rattle.std.proofs.Common.{◌≡◌, ℕ, ◌≤◌, List, length, sym, subst, arith}
use Rattle.std.specs.Prelude.{slice_get}
use Rattle.std.specs.List.{AllByRecursion}
use Rattle.event_runs.specs.Agreement.{Pairs}
use Rattle.graph_core.specs.declared.instruction.Callee.{Callee}
use Rattle.graph_core.specs.declared.instruction.Callee.TheVariants.{Function, Getchar, Putchar, Exit}
use Rattle.graph_core.specs.Graphs.{Operand, Name, Constant, StaticAddress, Recipe, Of, Truncated, Operated, NoteValue, Is, Gone, Location, Instruction, End, Block, Graph, UnitForm, Logged}
use Rattle.graph_core.specs.Validity.{HasParameters, IsCall, IsOperand, AreOperandsOf, IsLocation, AreOperandsOfEnd, IsNoteValue, IsInstruction}
use Rattle.copy_pass_rule.specs.Alike.{IsReadFor, itself, a_scalar, AreAlikeOperands, name, constant, static_address, AreAlikeLocations, automatic, static_object, where_it_points, AreAlikeInstructions, marker, note, move, operate, truncate, same, address, load, store, zero_words, copy_words, call, AreAlikeEnds, jump, branch, return_none, return_some, AreAlike}
use Rattle.copy_pass_rule.proofs.Lists.{as_many, all_carried, carried_at}

-- a graph with other blocks
abbrev pub with_blocks : Graph → List Block → Graph
with_blocks g blocks = record g { blocks = blocks }

-- a unit with other graphs and another log
abbrev pub with_graphs : UnitForm → List Graph → List Logged → UnitForm
with_graphs u graphs log = record u { graphs = graphs; log = log }

-- Functions by their number have as many parameters as before.
pub same_parameters : (gs hs : List Graph) → Pairs AreAlike gs hs → (f count : ℕ) → HasParameters (slice_get gs f) count → HasParameters (slice_get hs f) count
same_parameters gs hs all f count h = carried_at AreAlike (λ o. HasParameters o count) (λ o. HasParameters o count) (λ none. none) one gs hs all f h
  where
    one : (g h : Graph) → AreAlike g h → count ≡ length g.parameters → count ≡ length h.parameters
    one g h s e = subst (λ (k : Graph). count ≡ length k.parameters) (sym s.rest) e

module _ (u : UnitForm) (hs : List Graph) (log : List Logged) (graphs : Pairs AreAlike u.graphs hs) (grown : length u.log ≤ length log) (g : Graph) (blocks : List Block) (within : length g.scalars ≤ g.name_count) where
  -- An operand that is read for one that names what there is names what there is.
  operand_alike : (a b : Operand) → AreAlikeOperands (IsReadFor (length g.scalars)) a b → IsOperand u.statics g a → IsOperand u.statics (with_blocks g blocks) b
  operand_alike a b (name itself) h = h
  operand_alike a b (name (a_scalar of less)) h = omega (arith, less, within)
  operand_alike a b constant h = tt
  operand_alike a b static_address h = h

  -- The same of all operands of a call.
  operands_alike : (all others : List Operand) → Pairs (AreAlikeOperands (IsReadFor (length g.scalars))) all others → AllByRecursion (IsOperand u.statics g) all → AllByRecursion (IsOperand u.statics (with_blocks g blocks)) others
  operands_alike all others pairs h = all_carried (AreAlikeOperands (IsReadFor (length g.scalars))) (IsOperand u.statics g) (IsOperand u.statics (with_blocks g blocks)) operand_alike all others pairs h

  -- A location that is like one that names what there is names what there is.
  location_alike : (l m : Location) → AreAlikeLocations (IsReadFor (length g.scalars)) l m → IsLocation u.statics g l → IsLocation u.statics (with_blocks g blocks) m
  location_alike l m automatic h = h
  location_alike l m static_object h = h
  location_alike l m (where_it_points {a} {b} s) h = operand_alike a b s h

  -- The end of a block names what there is, where its like does.
  pub end_alike : (e f : End) → AreAlikeEnds (IsReadFor (length g.scalars)) e f → AreOperandsOfEnd u.statics g e → AreOperandsOfEnd u.statics (with_blocks g blocks) f
  end_alike e f jump h = tt
  end_alike e f (branch {a} {b} {c} {d} s t) h = (operand_alike a c s h.0, operand_alike b d t h.1)
  end_alike e f return_none h = tt
  end_alike e f (return_some {a} {b} s) h = operand_alike a b s h

  -- An operand that stays still names what there is.
  operand_stays : (a : Operand) → IsOperand u.statics g a → IsOperand u.statics (with_blocks g blocks) a
  operand_stays (Name x) h = h
  operand_stays (Constant word) h = tt
  operand_stays (StaticAddress object offset) h = h

  -- So does a recipe.
  recipe_stays : (r : Recipe) → AreOperandsOf u.statics g r → AreOperandsOf u.statics (with_blocks g blocks) r
  recipe_stays (Of a) h = operand_stays a h
  recipe_stays (Truncated t r) h = recipe_stays r h
  recipe_stays (Operated o r s) h = (recipe_stays r h.0, recipe_stays s h.1)

  -- What a note says is still so: its recipe stays, and its change is one of the longer log.
  note_stays : (v : NoteValue) → IsNoteValue u g v → IsNoteValue (with_graphs u hs log) (with_blocks g blocks) v
  note_stays (Is r) h = (recipe_stays r h.0, h.1)
  note_stays (Gone change) h = (h.0, omega (arith, h.1, grown))

  -- A call that has as many arguments as what it calls takes still has.
  call_alike : (f : Callee) (arguments : ℕ) → IsCall u.graphs f arguments → IsCall hs f arguments
  call_alike (Function f) arguments h = same_parameters u.graphs hs graphs f arguments h
  call_alike Getchar arguments h = h
  call_alike Putchar arguments h = h
  call_alike Exit arguments h = h

  -- An instruction that is like one that names what there is names what there is.
  pub instruction_alike : (i j : Instruction) → AreAlikeInstructions (IsReadFor (length g.scalars)) i j → IsInstruction u g i → IsInstruction (with_graphs u hs log) (with_blocks g blocks) j
  instruction_alike i j marker h = tt
  instruction_alike i j (note {v}) h = (h.0, note_stays v h.1)
  instruction_alike i j (move {a} {b} s) h = (h.0, operand_alike a b s h.1)
  instruction_alike i j (operate {a} {b} {c} {d} s t) h = (h.0, operand_alike a c s h.1, operand_alike b d t h.2)
  instruction_alike i j (truncate {a} {b} s) h = (h.0, operand_alike a b s h.1)
  instruction_alike i j (same {a} {b} {c} {d} s t) h = (h.0, operand_alike a c s h.1, operand_alike b d t h.2)
  instruction_alike i j address h = h
  instruction_alike i j (load {l} {m} s) h = (h.0, location_alike l m s h.1)
  instruction_alike i j (store {l} {m} {a} {b} s t) h = (location_alike l m s h.0, operand_alike a b t h.1)
  instruction_alike i j zero_words h = h
  instruction_alike i j copy_words h = h
  instruction_alike i j (call {f} {all} {others} s) h =
      (h.0, operands_alike all others s h.1, subst (IsCall hs f) (sym (as_many (AreAlikeOperands (IsReadFor (length g.scalars))) all others s)) (call_alike f (length all) h.2))
