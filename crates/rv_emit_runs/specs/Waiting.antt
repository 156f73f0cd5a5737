-- What the machine holds of activations that wait: the frames above the innermost one, as their code finds them again.
use Rattle.std.specs.Prelude.{◌≡◌, ℕ, ◌+◌, ◌-◌, ◌*◌, ◌%◌, ◌≤◌, ◌<◌, ◌⊎◌, ◌≢◌, true, Some, List, [], ◌∷◌, length, slice_get}
use Rattle.std.specs.List.{AllByRecursion}
use Rattle.memory_map.specs.Maps.{bytes_end, most_words, stack_end, stub_words}
use Rattle.graph_core.specs.Graphs.{Graph, UnitForm}
use Rattle.graph_core.specs.declared.graph.MemoryObject.{MemoryObject}
use Rattle.graph_core.specs.Values.{size_of}
use Rattle.graph_core.specs.Memory.{Memory, Object, bytes_of}
use Rattle.graph_core.specs.Runs.{Activation, Configuration}
use Rattle.graph_homes.specs.Homed.{IsHomeRegister}
use Rattle.rv_emit_words.specs.declared.piece.Held.{Held}
use Rattle.rv_emit_storage.specs.Storages.{StorageForm, object_at}
use Rattle.rv_emit_storage.specs.UnitMaps.{map_of_unit}
use Rattle.rv_emit_steps.specs.Holding.{Holding, with_register, word_at}
use Rattle.rv_emit_steps.specs.Programs.{address_of}
use Rattle.rv_emit_steps.specs.Frames.{Setting, IsStorage, HoldsFrame}

-- The code of a function: its graph, where it finds values, how many slots and how many bytes its frame has, the
-- registers that its frame keeps for its caller, and the index at which it begins.
pub record FunctionCode : Type 0 where
  pub graph : Graph
  pub storage : StorageForm
  pub slots : ℕ
  pub size : ℕ
  pub saved : List ℕ
  pub begin : ℕ

-- What it rests on, with the addresses that objects have and what scratch registers hold.
abbrev pub setting_of : UnitForm → (addresses : ℕ → ℕ) → List Held → FunctionCode → Setting
setting_of u addresses held f =
    record {
      unit = u;
      graph = f.graph;
      storage = f.storage;
      slots = f.slots;
      size = f.size;
      held = held;
      addresses = addresses;
    }

-- How many bytes an automatic object has.
abbrev pub bytes_in : MemoryObject → ℕ
bytes_in m = m.count * size_of m.element

-- An object lies behind the slots of the frame, at a multiple of 4, with a word behind it.
pub record LiesInFrame (f : FunctionCode) (k : ℕ) (m : MemoryObject) : Type 0 where
  pub aligned : object_at f.storage k % 4 ≡ 0
  pub low : f.storage.slots + 4 * f.slots ≤ object_at f.storage k
  pub high : object_at f.storage k + bytes_in m + 4 ≤ f.size

-- Its frame has room for all that it is to have, and keeps none but registers that may be homes. No two of its objects
-- touch one another.
pub record IsFunctionCode (u : UnitForm) (f : FunctionCode) : Type 0 where
  pub storage : (addresses : ℕ → ℕ) (held : List Held) → IsStorage (setting_of u addresses held f)
  pub kept : 4 + 4 * length f.saved ≤ f.storage.slots
  pub registers : AllByRecursion IsHomeRegister f.saved
  pub aligned : f.size % 4 ≡ 0
  pub small : f.size ≤ 16384
  pub objects : (k : ℕ) (m : MemoryObject) → slice_get f.graph.objects k ≡ Some m → LiesInFrame f k m
  pub apart : (j k : ℕ) (m n : MemoryObject) → j ≢ k → slice_get f.graph.objects j ≡ Some m
      → slice_get f.graph.objects k ≡ Some n
      → (object_at f.storage j + bytes_in m < object_at f.storage k)
      ⊎ (object_at f.storage k + bytes_in n < object_at f.storage j)

-- ---- Registers that are restored

-- What registers hold once those that a frame keeps are loaded from it, one behind the other from an address on.
abbrev pub restored : List ℕ → (address : ℕ) → (memory registers : ℕ → ℕ) → ℕ → ℕ
restored [] a m registers = registers
restored (r ∷ more) a m registers = restored more (a + 4) m (with_register r (word_at m a) registers)

-- What the machine holds, as far as the code of the caller looks at it, once the innermost activation is left.
abbrev pub behind_frame : FunctionCode → Holding → Holding
behind_frame f h =
    record
    h {
      registers = with_register 2 (h.registers 2 + f.size)
          (restored f.saved (h.registers 2 + 4) h.memory h.registers);
    }

-- ---- Activations that wait

-- The activation that an inner one returns to: where its code goes on, and that its frame stands as it is to stand once
-- the inner one is left. Objects that began before those of the inner one lie in static memory, or above the inner
-- one's frame.
pub record Waits (codes : ℕ → FunctionCode) (u : UnitForm) (addresses : ℕ → ℕ) (resumes : Activation → ℕ → Type 0)
    (memory : Memory) (input : List ℕ) (f : FunctionCode) (first : ℕ) (h : Holding) (a : Activation)
    (waiting : List Activation) : Type 0 where
  pub index : ℕ
  pub low : index ≤ most_words (map_of_unit u)
  pub returns : word_at h.memory (h.registers 2) ≡ address_of index
  pub code : resumes a index
  pub frame : HoldsFrame (setting_of u addresses [] (codes a.function)) (record {
    memory = memory;
    input = input;
    here = a;
    waiting = waiting;
  }) (behind_frame f h)
  pub room : stack_end (map_of_unit u) ≤ h.registers 2 + f.size + 16384 * (length waiting + 1)
  pub objects : a.first_object + length (codes a.function).graph.objects ≤ length memory
  pub below : (n : ℕ) (o : Object) → n < first → slice_get memory n ≡ Some o → o.live ≡ true
      → (addresses n + bytes_of o ≤ bytes_end (map_of_unit u)) ⊎ (h.registers 2 + f.size ≤ addresses n)

-- All of them, from the innermost on. The outermost activation is that of main, which lies at the top of the stack and
-- returns to the word behind its call.
abbrev pub HoldsWaiting : (codes : ℕ → FunctionCode) → UnitForm → (addresses : ℕ → ℕ)
    → (resumes : Activation → ℕ → Type 0) → Memory → (input : List ℕ) → FunctionCode → (first : ℕ) → Holding
    → List Activation → Type 0
HoldsWaiting codes u addresses resumes memory input f first h [] =
    (word_at h.memory (h.registers 2) ≡ address_of (stub_words (map_of_unit u) - 2))
    × (h.registers 2 + f.size ≡ stack_end (map_of_unit u))
HoldsWaiting codes u addresses resumes memory input f first h (a ∷ waiting) =
    Waits codes u addresses resumes memory input f first h a waiting
    × HoldsWaiting codes u addresses resumes memory input (codes a.function) a.first_object (behind_frame f h)
    waiting

-- The machine holds a configuration: the innermost activation, all that wait, how many may still begin, room for their
-- frames, and the input. No live object lies in the stack below the innermost frame.
pub record HoldsAll (codes : ℕ → FunctionCode) (u : UnitForm) (addresses : ℕ → ℕ) (resumes : Activation → ℕ → Type 0)
    (held : List Held) (c : Configuration) (h : Holding) : Type 0 where
  pub here : HoldsFrame (setting_of u addresses held (codes c.here.function)) c h
  pub waiting : HoldsWaiting codes u addresses resumes c.memory c.input (codes c.here.function)
      c.here.first_object h c.waiting
  pub depth : h.registers 4 + (length c.waiting + 1) ≡ 1024
  pub room : stack_end (map_of_unit u) ≤ h.registers 2 + 16384 * (length c.waiting + 1)
  pub objects : c.here.first_object + length (codes c.here.function).graph.objects ≤ length c.memory
  pub input : h.input ≡ c.input
  pub below : (n : ℕ) (o : Object) → slice_get c.memory n ≡ Some o → o.live ≡ true
      → (addresses n + bytes_of o ≤ bytes_end (map_of_unit u)) ⊎ (h.registers 2 ≤ addresses n)
