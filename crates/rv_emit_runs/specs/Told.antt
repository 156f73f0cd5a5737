-- What is told of code: where what lies in memory is, and which words write homes.
use Rattle.std.specs.Prelude.{◌≡◌, ℕ, zero, suc, ◌+◌, ◌<◌, ◌≤◌, Option, Some, List, [], ◌∷◌, ◌++◌, length, slice_get}
use Rattle.graph_core.specs.Graphs.{Block, Graph, Instruction, ToScalar}
use Rattle.graph_core.specs.Uses.{target_of}
use Rattle.graph_core.specs.Validity.{place_behind}
use Rattle.graph_homes.specs.declared.home.Home.{Home}
use Rattle.graph_homes.specs.Homed.{HomedForm, home_of}
use Rattle.rv_emit_storage.specs.StaticAddresses.{static_at}
use Rattle.rv_emit_tables.specs.Emitted.{EmittedForm}
use Rattle.rv_emit_tables.specs.Emitted.{FunctionCode as TableCode}
use Rattle.rv_emit_steps.specs.Programs.{address_of}
use Rattle.rv_emit_runs.specs.Laid.{Arrangement, code_of}
use Rattle.rv_emit_runs.specs.Writing.{HasBinder, HasWriter}

-- What is told of the code of a function: its frame, where its slots begin, and where its objects are.
pub record IsTold (h : HomedForm) (a : Arrangement) (e : EmittedForm) (f : ℕ) : Type 0 where
  pub code : TableCode
  pub is : slice_get e.functions f ≡ Some code
  pub frame : code.frame ≡ (code_of h a f).size
  pub slots : code.slots ≡ (code_of h a f).storage.slots
  pub objects : code.objects ≡ (code_of h a f).storage.objects

-- What is told of the code of a unit: where its static objects are, and of each function where its parts are.
pub record Tells (h : HomedForm) (a : Arrangement) (e : EmittedForm) : Type 0 where
  pub many : length e.statics ≡ length h.unit.statics
  pub statics : (k : ℕ) → k < length h.unit.statics → slice_get e.statics k ≡ Some (static_at h.unit k)
  pub functions : (f : ℕ) (g : Graph) → slice_get h.unit.graphs f ≡ Some g → IsTold h a e f

-- ---- Which words write homes

-- how many instructions stand in the blocks before a block, notes too
abbrev pub instructions_before : List Block → (block : ℕ) → ℕ
instructions_before [] l = 0
instructions_before (b ∷ more) zero = 0
instructions_before (b ∷ more) (suc l) = length b.instructions + instructions_before more l

-- 32 bits can count the instructions of a graph, notes too.
abbrev pub IsCountable : Graph → Type 0
IsCountable g = instructions_before g.blocks (length g.blocks) ≤ 4294967295

-- 32 bits can count the instructions of each function, notes too.
abbrev pub AreCountable : HomedForm → Type 0
AreCountable h = (f : ℕ) (g : Graph) → slice_get h.unit.graphs f ≡ Some g → IsCountable g

-- What is told for an instruction, block by block, is the address of a word that writes the home of its target.
pub record IsToldWriter (h : HomedForm) (a : Arrangement) (e : EmittedForm) (code : TableCode) (f l number : ℕ)
    (place : Option ℕ) (home : Home) : Type 0 where
  pub writer : HasWriter h a e f l place home
  pub told : slice_get code.writers number ≡ Some (address_of writer.index)

-- THE TABLE OF WRITERS: for each instruction with a target the address is told of the word that writes the target's
-- home, in the place that is in force before it.
abbrev pub TellWriters : HomedForm → Arrangement → EmittedForm → Type 0
TellWriters h a e =
    (f : ℕ) (g : Graph) (code : TableCode) → slice_get h.unit.graphs f ≡ Some g → slice_get e.functions f ≡ Some code
    → (l : ℕ) (b : Block) → slice_get g.blocks l ≡ Some b
    → (before behind : List Instruction) (i : Instruction) (x : ℕ) → b.instructions ≡ before ++ (i ∷ behind)
    → target_of i ≡ Some x
    → IsToldWriter h a e code f l (instructions_before g.blocks l + length before) (place_behind before b.place)
    (home_of h f x)

-- What is told for a parameter is the address of a word that writes the home of its scalar.
pub record IsToldBinder (h : HomedForm) (a : Arrangement) (e : EmittedForm) (code : TableCode) (f number entry : ℕ)
    (home : Home) : Type 0 where
  pub binder : HasBinder h a e f entry home
  pub told : slice_get code.bindings number ≡ Some (address_of binder.index)

-- THE TABLE OF BINDINGS: for each parameter that is a scalar the address is told of the word that writes its home as a
-- call binds it, in the place of the function's entry.
abbrev pub TellBinders : HomedForm → Arrangement → EmittedForm → Type 0
TellBinders h a e =
    (f : ℕ) (g : Graph) (code : TableCode) → slice_get h.unit.graphs f ≡ Some g → slice_get e.functions f ≡ Some code
    → (k x : ℕ) → slice_get g.parameters k ≡ Some (ToScalar x) → IsToldBinder h a e code f k g.entry (home_of h f x)
