-- What the machine holds while an activation of a unit over homes goes on, and when code does a step of it.
use Rattle.std.specs.Prelude.{◌≡◌, ℕ, ◌+◌, ◌*◌, ◌%◌, ◌<◌, ◌≤◌, ◌⊎◌, true, Option, Some, None, List, [], ◌∷◌, length, slice_get, slice_index}
use Rattle.memory_map.specs.Maps.{bytes_start, bytes_end, stack_start, stack_end}
use Rattle.rv_code.specs.declared.instruction.Instruction.{Instruction as MachineInstruction}
use Rattle.graph_core.specs.Graphs.{Operand, Name, Constant, StaticAddress, Location, Automatic, Static, At, Instruction, Marker, Note, Move, Operate, Truncate, Same, Address, Load, Store, Zero, CopyWords, Call, Graph, StaticObject, UnitForm}
use Rattle.graph_core.specs.Memory.{Memory, Object, bytes_of, words_of, static_bytes}
use Rattle.graph_core.specs.Runs.{Configuration, Stepped, Goes, Shows, Ends, Wild}
use Rattle.graph_homes.specs.declared.home.Home.{Home}
use Rattle.graph_homes.specs.Homed.{IsHomeAmong, home_number}
use Rattle.rv_emit_words.specs.declared.piece.Held.{Held}
use Rattle.rv_emit_storage.specs.UnitMaps.{map_of_unit}
use Rattle.rv_emit_storage.specs.Storages.{StorageForm, home_at, object_at, static_object_at, array_bytes_at, source_of}
use Rattle.rv_emit_instructions.specs.Operations.{operation_code, truncation_code, comparison_code, move_code}
use Rattle.rv_emit_instructions.specs.Memory.{load_code, store_code, object_address_code}
use Rattle.rv_emit_steps.specs.Holding.{Holding}
use Rattle.rv_emit_steps.specs.Doing.{done_by_all, CanDoAll}
use Rattle.rv_emit_steps.specs.EmitMovesDoing.{CanFetch, IsLeft, IsNoHome, value_of_home}
use Rattle.rv_emit_steps.specs.Meaning.{size_at, Means, HoldsObjects, AreLaid}

-- What the code of a function rests on: its unit, its graph, where it finds values, how many slots and how many bytes
-- its frame has, which constants scratch registers hold, and the addresses of objects.
pub record Setting : Type 0 where
  pub unit : UnitForm
  pub graph : Graph
  pub storage : StorageForm
  pub slots : ℕ
  pub size : ℕ
  pub held : List Held
  pub addresses : ℕ → ℕ

-- Each name has a home: a register that may be one, or one of the slots, which stand in the frame as objects do.
pub record IsStorage (w : Setting) : Type 0 where
  pub homes : (x : ℕ) → x < w.graph.name_count → IsHomeAmong w.slots (home_at w.storage x)
  pub aligned : w.storage.slots % 4 ≡ 0
  pub room : w.storage.slots + 4 * w.slots ≤ w.size
  pub objects : (k : ℕ) → k < length w.graph.objects → object_at w.storage k ≤ w.size

-- Constants are held in s0 and a1 to a7, which are no homes.
abbrev pub IsScratch : (register : ℕ) → Type 0
IsScratch r = (r ≡ 8) ⊎ ((11 ≤ r) × (r ≤ 17))

abbrev pub AreScratch : List Held → Type 0
AreScratch [] = Unit {0}
AreScratch (x ∷ more) = IsScratch x.register × AreScratch more

-- The bytes that initialise an array stand in static memory, with zeros behind them up to a whole word, and apart from
-- all live objects.
pub record HasArray (w : Setting) (memory : Memory) (m : ℕ → ℕ) (n : ℕ) (all : List ℕ) : Type 0 where
  pub aligned : array_bytes_at w.storage n % 4 ≡ 0
  pub low : bytes_start (map_of_unit w.unit) ≤ array_bytes_at w.storage n
  pub high : array_bytes_at w.storage n + 4 * words_of (length all) ≤ bytes_end (map_of_unit w.unit)
  pub bytes : (i : ℕ) → i < 4 * words_of (length all) → m (array_bytes_at w.storage n + i) ≡ slice_index all i
  pub apart : (k : ℕ) (o : Object) → slice_get memory k ≡ Some o → o.live ≡ true
      → (w.addresses k + 4 * words_of (bytes_of o) ≤ array_bytes_at w.storage n)
      ⊎ (array_bytes_at w.storage n + 4 * words_of (length all) ≤ w.addresses k)

-- The machine holds the innermost activation of a configuration: its regions lie as the unit's map has them, its frame
-- stands at sp, its homes hold words that mean the values of their names, which are their numbers, and the live objects
-- of all activations what they hold. None of these lies in the part of the frame below its objects. Static objects and
-- the bytes that initialise arrays stand at their addresses.
pub record HoldsFrame (w : Setting) (c : Configuration) (h : Holding) : Type 0 where
  pub fetch : CanFetch w.storage w.held h
  pub scratch : AreScratch w.held
  pub aligned : h.registers 2 % 4 ≡ 0
  pub map : h.regions ≡ map_of_unit w.unit
  pub low : stack_start (map_of_unit w.unit) ≤ h.registers 2
  pub high : h.registers 2 + w.size ≤ stack_end (map_of_unit w.unit)
  pub homes : (home : Home) → IsHomeAmong w.slots home
      → Means w.addresses c.memory (c.here.names (home_number home)) (value_of_home w.storage h home)
  pub objects : HoldsObjects w.addresses c.memory h.memory
  pub laid : AreLaid (map_of_unit w.unit) w.addresses c.memory
  pub free : (n : ℕ) (o : Object) → slice_get c.memory n ≡ Some o → o.live ≡ true
      → (w.addresses n + bytes_of o ≤ h.registers 2) ⊎ (h.registers 2 + (w.storage.slots + 4 * w.slots) ≤ w.addresses n)
  pub own : (k : ℕ) → k < length w.graph.objects
      → w.addresses (c.here.first_object + k) ≡ h.registers 2 + object_at w.storage k
  pub static : (n : ℕ) (o : StaticObject) → slice_get w.unit.statics n ≡ Some o
      → (size_at c.memory n ≡ Some (static_bytes o)) × (w.addresses n ≡ static_object_at w.storage n)
  pub arrays : (n : ℕ) (all : List ℕ) → slice_get w.unit.array_bytes n ≡ Some all → HasArray w c.memory h.memory n all

-- ---- Steps

-- A byte lies in no slot of the frame and in no word of a live object.
abbrev pub IsOutside : Setting → Configuration → Holding → (address : ℕ) → Type 0
IsOutside w c h b =
    ((b < h.registers 2 + w.storage.slots) ⊎ (h.registers 2 + (w.storage.slots + 4 * w.slots) ≤ b))
    ×
    ((n : ℕ) (o : Object) → slice_get c.memory n ≡ Some o → o.live ≡ true
    → (b < w.addresses n) ⊎ (w.addresses n + 4 * words_of (bytes_of o) ≤ b))

-- A register is not the home that is written, if one is.
abbrev pub IsNoTarget : Option Home → (register : ℕ) → Type 0
IsNoTarget None q = Unit {0}
IsNoTarget (Some home) q = IsNoHome home q

-- Code leads from one configuration to another: it can be done, and behind it the machine holds the other. It leaves
-- registers, but t0 to t2 and the home that is written, memory outside of the slots and of the words of live objects,
-- and the input.
pub record Performs (w : Setting) (c : Configuration) (h : Holding) (target : Option Home)
    (code : List MachineInstruction) (d : Configuration) : Type 0 where
  pub can : CanDoAll code h
  pub frame : HoldsFrame w d (done_by_all code h)
  pub kept : (q : ℕ) → IsNoTarget target q → IsLeft q → (done_by_all code h).registers q ≡ h.registers q
  pub outside : (b : ℕ) → IsOutside w c h b → (done_by_all code h).memory b ≡ h.memory b
  pub input : (done_by_all code h).input ≡ h.input

-- Code does a step that goes on unseen. Where the step is wild, nothing is said of the code.
abbrev pub DoesStep : Setting → Configuration → Holding → Option Home → List MachineInstruction → Stepped → Type 0
DoesStep w c h target code (Goes d) = Performs w c h target code d
DoesStep w c h target code (Shows e d) = ⊥
DoesStep w c h target code (Ends e) = ⊥
DoesStep w c h target code Wild = Unit {0}

-- ---- Instructions

-- A constant that an operand has is a word.
abbrev pub IsWord : Operand → Type 0
IsWord (Name x) = Unit {0}
IsWord (Constant n) = n < 4294967296
IsWord (StaticAddress object offset) = Unit {0}

-- what a location is computed from are words
abbrev pub IsWordIn : Location → Type 0
IsWordIn (Automatic object offset) = Unit {0}
IsWordIn (Static object) = Unit {0}
IsWordIn (At a) = IsWord a

-- An instruction goes straight on, and its constants are words. A note has no word at all.
abbrev pub IsStraight : Instruction → Type 0
IsStraight (Marker p) = ⊥
IsStraight (Note x v) = Unit {0}
IsStraight (Move x a) = IsWord a
IsStraight (Operate x op a b) = IsWord a × IsWord b
IsStraight (Truncate x t a) = IsWord a
IsStraight (Same x a b) = IsWord a × IsWord b
IsStraight (Address x object) = Unit {0}
IsStraight (Load x e l) = IsWordIn l
IsStraight (Store e l a) = IsWordIn l × IsWord a
IsStraight (Zero object words) = ⊥
IsStraight (CopyWords object bytes words) = ⊥
IsStraight (Call target f all) = ⊥

-- Its words.
abbrev pub straight_code : StorageForm → List Held → Instruction → List MachineInstruction
straight_code g held (Marker p) = []
straight_code g held (Note x v) = []
straight_code g held (Move x a) = move_code g held (home_at g x) (source_of g a)
straight_code g held (Operate x op a b) = operation_code g held (home_at g x) op (source_of g a) (source_of g b)
straight_code g held (Truncate x t a) = truncation_code g held (home_at g x) t (source_of g a)
straight_code g held (Same x a b) = comparison_code g held (home_at g x) (source_of g a) (source_of g b)
straight_code g held (Address x object) = object_address_code g (home_at g x) object
straight_code g held (Load x e l) = load_code g held (home_at g x) e l
straight_code g held (Store e l a) = store_code g held e l (source_of g a)
straight_code g held (Zero object words) = []
straight_code g held (CopyWords object bytes words) = []
straight_code g held (Call target f all) = []
