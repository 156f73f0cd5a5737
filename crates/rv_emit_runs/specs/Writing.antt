-- Words that write homes.
use Rattle.std.specs.Prelude.{◌≡◌, ◌≢◌, ℕ, ◌+◌, ◌*◌, ◌%◌, ◌<◌, ◌≤◌, Option, Some, List, [], ◌∷◌, ◌++◌, length, slice_get, slice_index}
use Rattle.std.specs.Option.{option_map_or}
use Rattle.rv_code.specs.declared.instruction.Instruction.{Instruction}
use Rattle.rv_code.specs.declared.instruction.Instruction.TheVariants.{Lui, Auipc, Jal, Jalr, Branch, Load, Store, Immediate, Register as OnRegisters, Fence, Ecall, Ebreak}
use Rattle.rv_code.specs.declared.instruction.RegisterOperation.TheVariants.{Add}
use Rattle.rv_code.specs.declared.instruction.StoreOperation.{StoreOperation}
use Rattle.rv_code.specs.Decoding.{decoded}
use Rattle.graph_core.specs.Graphs.{Block, Graph, ToScalar, Instruction as UnitInstruction}
use Rattle.graph_core.specs.Uses.{target_of}
use Rattle.graph_core.specs.Validity.{place_behind}
use Rattle.graph_homes.specs.declared.home.Home.{Home}
use Rattle.graph_homes.specs.declared.home.Home.TheVariants.{Register, Slot}
use Rattle.graph_homes.specs.Homed.{HomedForm, home_of}
use Rattle.rv_emit_tables.specs.Emitted.{EmittedForm, FunctionCode}
use Rattle.rv_emit_steps.specs.Programs.{address_of}
use Rattle.rv_emit_storage.specs.Storages.{StorageForm, slot_at}
use Rattle.rv_emit_words.specs.Operands.{store_slot_code}
use Rattle.rv_emit_runs.specs.Laid.{Arrangement, code_of}

-- An instruction of the machine has its result in this register.
abbrev pub MakesRegister : (r : ℕ) → Instruction → Type 0
MakesRegister r (Lui d n) = d ≡ r
MakesRegister r (Auipc d n) = d ≡ r
MakesRegister r (Jal d n) = d ≡ r
MakesRegister r (Jalr d base n) = d ≡ r
MakesRegister r (Branch op a b n) = ⊥
MakesRegister r (Load op d base n) = d ≡ r
MakesRegister r (Store op v base n) = ⊥
MakesRegister r (Immediate op d a n) = d ≡ r
MakesRegister r (OnRegisters op d a b) = d ≡ r
MakesRegister r (Fence a b n) = ⊥
MakesRegister r Ecall = ⊥
MakesRegister r Ebreak = ⊥

-- These instructions write a home by the last of them: it has its result in the home's register, or they store one in
-- its slot.
abbrev pub IsWriting : StorageForm → Home → List Instruction → Type 0
IsWriting g (Register r) code = (i : Instruction) × (code ≡ i ∷ []) × MakesRegister r i
IsWriting g (Slot k) code = (register : ℕ) × (code ≡ store_slot_code register (slot_at g k))

-- Code ends with instructions that write a home.
pub record EndsWriting (g : StorageForm) (home : Home) (code : List Instruction) : Type 0 where
  pub before : List Instruction
  pub last : List Instruction
  pub is : code ≡ before ++ last
  pub writes : IsWriting g home last

-- ---- In the code of the machine

-- A word of code spells this instruction.
abbrev pub IsSpelledAt : List ℕ → (index : ℕ) → Instruction → Type 0
IsSpelledAt code index i = (w : ℕ) × (slice_get code index ≡ Some w) × (decoded w ≡ Some i)

-- Words of code spell these instructions, one behind the other.
abbrev pub AreSpelledAt : List ℕ → (index : ℕ) → List Instruction → Type 0
AreSpelledAt code index [] = Unit {0}
AreSpelledAt code index (i ∷ more) = IsSpelledAt code index i × AreSpelledAt code (index + 1) more

-- The word at an index writes a home: it spells the last of instructions that write it, and those before it spell the
-- others.
pub record IsWriter (g : StorageForm) (code : List ℕ) (home : Home) (index : ℕ) : Type 0 where
  pub from : ℕ
  pub last : List Instruction
  pub there : AreSpelledAt code from last
  pub writes : IsWriting g home last
  pub is : from + length last ≡ index + 1

-- The word of an instruction of a block that writes a home: it stands in the block, and belongs to the place in force.
pub record HasWriter (h : HomedForm) (a : Arrangement) (e : EmittedForm) (f l : ℕ) (place : Option ℕ) (home : Home)
    : Type 0 where
  pub index : ℕ
  pub within : a.label f l ≤ index
  pub writes : IsWriter (code_of h a f).storage e.code home index
  pub owner : slice_index e.owners index ≡ option_map_or (λ p. p) place 0

-- Each instruction of a unit that has a target has a word that writes the target's home, in the place that is in force
-- before the instruction.
abbrev pub HaveWriters : HomedForm → Arrangement → EmittedForm → Type 0
HaveWriters h a e =
    (f : ℕ) (g : Graph) → slice_get h.unit.graphs f ≡ Some g → (l : ℕ) (b : Block) → slice_get g.blocks l ≡ Some b
    → (before behind : List UnitInstruction) (i : UnitInstruction) (x : ℕ) → b.instructions ≡ before ++ (i ∷ behind)
    → target_of i ≡ Some x
    → HasWriter h a e f l (place_behind before b.place) (home_of h f x)

-- The word that binds a parameter that is a scalar: it writes the scalar's home, and belongs to the place of the
-- function's entry.
pub record HasBinder (h : HomedForm) (a : Arrangement) (e : EmittedForm) (f entry : ℕ) (home : Home) : Type 0 where
  pub index : ℕ
  pub within : a.function f ≤ index
  pub writes : IsWriter (code_of h a f).storage e.code home index
  pub owner : slice_index e.owners index ≡ entry

-- Each parameter of a unit's functions that is a scalar has such a word.
abbrev pub HaveBinders : HomedForm → Arrangement → EmittedForm → Type 0
HaveBinders h a e =
    (f : ℕ) (g : Graph) → slice_get h.unit.graphs f ≡ Some g → (k x : ℕ) → slice_get g.parameters k ≡ Some (ToScalar x)
    → HasBinder h a e f g.entry (home_of h f x)

-- ---- That nothing else writes them

-- A store so many bytes behind sp may reach the word at an offset of the frame, whatever its width: it begins less than
-- four bytes before that or behind it.
abbrev pub MayReach : (at offset : ℕ) → Type 0
MayReach n o = (n < o + 4) × (o < n + 4)

-- The word at an index may store over the word at an offset of the frame: from sp; or from t0, where the two words
-- before it set that to sp and an upper part of the distance.
pub data MayStore (code : List ℕ) (offset index : ℕ) : Type 0 where
  near : (op : StoreOperation) (register n : ℕ) → IsSpelledAt code index (Store op register 2 n) → MayReach n offset
      → MayStore code offset index
  far : (op : StoreOperation) (register from upper n : ℕ) → from + 2 ≡ index
      → AreSpelledAt code from (Lui 5 upper ∷ OnRegisters Add 5 5 2 ∷ Store op register 5 n ∷ [])
      → MayReach ((upper * 4096 + n) % 4294967296) offset → MayStore code offset index

-- The word at an index may write a home: it has its result in the home's register, or may store over the home's slot.
abbrev pub MayWrite : StorageForm → List ℕ → Home → (index : ℕ) → Type 0
MayWrite g code (Register r) index = (i : Instruction) × IsSpelledAt code index i × MakesRegister r i
MayWrite g code (Slot k) index = MayStore code (slot_at g k) index

-- A function writes a home in a place: by an instruction that stands in this place, whether a path reaches it or not,
-- and whose target has that home; or, in the place of its entry, by the binding of a parameter that has it.
pub data WritesIn (h : HomedForm) (f : ℕ) (g : Graph) (place : ℕ) (home : Home) : Type 0 where
  instruction : (l x : ℕ) (b : Block) (i : UnitInstruction) (before behind : List UnitInstruction)
      → slice_get g.blocks l ≡ Some b → b.instructions ≡ before ++ (i ∷ behind)
      → place_behind before b.place ≡ Some place → target_of i ≡ Some x → home_of h f x ≡ home
      → WritesIn h f g place home
  binding : (k x : ℕ) → place ≡ g.entry → slice_get g.parameters k ≡ Some (ToScalar x) → home_of h f x ≡ home
      → WritesIn h f g place home

-- NO OTHER WORD OF A PLACE WRITES A HOME: where a word of a function belongs to a place, and may write the home of a
-- name of the function, the function writes that home in that place. The words that restore a caller's registers at a
-- return belong to no place, and where these were saved lies before all slots; of a store to where a pointer leads
-- nothing is said, since its words do not tell what it reaches.
abbrev pub WritesNothingElse : HomedForm → Arrangement → EmittedForm → Type 0
WritesNothingElse h a e =
    (f : ℕ) (g : Graph) (code : FunctionCode) → slice_get h.unit.graphs f ≡ Some g → slice_get e.functions f ≡ Some code
    → (index : ℕ) → code.first ≤ address_of index → address_of index < code.end
    → (place : ℕ) → slice_index e.owners index ≡ place → place ≢ 0 → (x : ℕ) → x < g.name_count
    → MayWrite (code_of h a f).storage e.code (home_of h f x) index → WritesIn h f g place (home_of h f x)
