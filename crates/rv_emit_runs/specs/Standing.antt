-- What the machine holds where it stands at a stop of a unit over homes, and when it shows what the unit shows.
use Rattle.std.specs.Prelude.{◌≡◌, ℕ, ◌+◌, ◌-◌, ◌%◌, ◌<◌, ◌≤◌, Some, List, [], ◌∷◌, length, slice_get, slice_index}
use Rattle.std.specs.Int.{cast_signed, w32}
use Rattle.memory_map.specs.declared.map.Map.{Map}
use Rattle.memory_map.specs.Maps.{most_words, stack_end, stack_start, stub_words}
use Rattle.rv_machine.specs.State.{MachineState, reg}
use Rattle.rv_machine.specs.Run.{MachineEvent, Byte, Arrival, Exit, TooDeep}
use Rattle.graph_core.specs.Graphs.{StaticObject}
use Rattle.graph_core.specs.Memory.{Memory, static_bytes}
use Rattle.graph_core.specs.Paths.{Among}
use Rattle.graph_core.specs.Runs as unit
use Rattle.graph_core.specs.Runs.{Activation, Configuration}
use Rattle.graph_homes.specs.declared.home.Home.{Home}
use Rattle.graph_homes.specs.Homed.{HomedForm, IsHomeAmong, home_number}
use Rattle.graph_homes.specs.Seen.{Seen, Going, Over}
use Rattle.rv_emit_storage.specs.StaticAddresses.{static_at}
use Rattle.rv_emit_tables.specs.Emitted.{EmittedForm}
use Rattle.rv_emit_storage.specs.Storages.{object_at}
use Rattle.rv_emit_steps.specs.Holding.{AreInRange, held, word_at}
use Rattle.rv_emit_steps.specs.Programs.{address_of}
use Rattle.rv_emit_steps.specs.EmitMovesDoing.{value_of_home}
use Rattle.rv_emit_steps.specs.Meaning.{AreLaid, HoldsObjects, Means, size_at}
use Rattle.rv_emit_runs.specs.Waiting.{FunctionCode}
use Rattle.rv_emit_runs.specs.Laid.{Arrangement, code_of}

-- ---- Frames

-- The frame of an activation begins at an address: it lies in the stack, and its objects have their places in it.
pub record IsFrame (regions : Map) (code : FunctionCode) (addresses : ℕ → ℕ) (sp : ℕ) (a : Activation) : Type 0 where
  pub aligned : sp % 16 ≡ 0
  pub low : stack_start regions ≤ sp
  pub high : sp + code.size ≤ stack_end regions
  pub objects : (k : ℕ) → k < length code.graph.objects → addresses (a.first_object + k) ≡ sp + object_at code.storage k

-- An address to which an activation returns: the word before it is that of the call, and belongs to the caller's place.
pub record ReturnsTo (e : EmittedForm) (place address : ℕ) : Type 0 where
  pub index : ℕ
  pub low : index + 1 ≤ most_words e.map
  pub is : address ≡ address_of (index + 1)
  pub owned : slice_index e.owners index ≡ place

-- The stack from an activation's frame on: at the bottom of each frame stands the address to which it returns, to a
-- place of the one that waits for it, whose frame begins where this one ends. That of main lies at the top of the
-- stack, and returns to the word behind the call before all functions.
abbrev pub IsStack : EmittedForm → (codes : ℕ → FunctionCode) → (addresses : ℕ → ℕ) → (memory : ℕ → ℕ) → (sp : ℕ)
    → Activation → List Activation → Type 0
IsStack e codes addresses memory sp a [] =
    IsFrame e.map (codes a.function) addresses sp a × (word_at memory sp ≡ address_of (stub_words e.map - 2))
    × (sp + (codes a.function).size ≡ stack_end e.map)
IsStack e codes addresses memory sp a (b ∷ more) =
    IsFrame e.map (codes a.function) addresses sp a × ReturnsTo e b.place (word_at memory sp)
    × IsStack e codes addresses memory (sp + (codes a.function).size) b more

-- ---- Stops

-- The machine stands where a unit over homes is at a stop: its memory is that of the code, and it stands at the address
-- of the place, with as many activations alive, their frames in the stack, in each home of the innermost one the word
-- of the value that was last written there, and at its address each object that lives, also those of activations that
-- wait. Objects, also those that have ended, lie in memory, and static ones have their sizes; each register is a word,
-- and each byte of memory a byte.
pub record StandsAt (h : HomedForm) (e : EmittedForm) (a : Arrangement) (c : Configuration) (s : MachineState)
    : Type 0 where
  pub addresses : ℕ → ℕ
  pub map : s.map ≡ e.map
  pub place : Among (record { place = c.here.place; address = s.pc }) e.stops
  pub depth : reg s 4 + (length c.waiting + 1) ≡ 1024
  pub statics : (n : ℕ) → n < length h.unit.statics → addresses n ≡ static_at h.unit n
  pub stack : IsStack e (code_of h a) addresses (held s).memory (reg s 2) c.here c.waiting
  pub homes : (home : Home) → IsHomeAmong (code_of h a c.here.function).slots home
      → Means addresses c.memory (c.here.names (home_number home))
      (value_of_home (code_of h a c.here.function).storage (held s) home)
  pub objects : HoldsObjects addresses c.memory (held s).memory
  pub laid : AreLaid e.map addresses c.memory
  pub sizes : (n : ℕ) (o : StaticObject) → slice_get h.unit.statics n ≡ Some o
      → size_at c.memory n ≡ Some (static_bytes o)
  pub range : AreInRange (held s)

-- An event of the machine is one of the unit over homes: the same byte, the same status, a call too many in both, or a
-- stop of the unit where the machine stands at it.
pub data SameSeen (h : HomedForm) (e : EmittedForm) (a : Arrangement) : Seen → MachineEvent → Type 0 where
  byte : {b : ℕ} {c : Configuration} → SameSeen h e a (Going (unit.Put b) c) (Byte b)
  stop : {frames : List unit.Frame} {memory : Memory} {c : Configuration} {s : MachineState} → StandsAt h e a c s
      → SameSeen h e a (Going (unit.Stop frames memory) c) (Arrival s)
  exited : {status : ℕ} → SameSeen h e a (Over (unit.Exited status)) (Exit (cast_signed w32 status))
  deep : SameSeen h e a (Over unit.TooDeep) TooDeep
