-- What words are to do that fetch operands and write results.
use Rattle.std.specs.Prelude.{◌≡◌, ◌≢◌, ℕ, ◌+◌, ◌%◌, ◌≤◌, List, [], ◌∷◌}
use Rattle.memory_map.specs.Maps.{stack_start, stack_end}
use Rattle.rv_code.specs.declared.instruction.Instruction.{Instruction}
use Rattle.graph_homes.specs.declared.home.Home.{Home}
use Rattle.graph_homes.specs.declared.home.Home.TheVariants.{Register, Slot}
use Rattle.rv_emit_words.specs.declared.piece.Held.{Held}
use Rattle.rv_emit_storage.specs.declared.storage.Source.{Source}
use Rattle.rv_emit_storage.specs.declared.storage.Source.TheVariants.{Home as OfHome, Word}
use Rattle.rv_emit_storage.specs.Storages.{StorageForm, slot_at}
use Rattle.rv_emit_steps.specs.Holding.{Holding, word_at, with_bytes}
use Rattle.rv_emit_steps.specs.Doing.{done_by_all, CanDoAll}

-- Behind the words a register holds a value. No other register but t0, which is 5, and one more is written, and memory
-- and input are as they were.
pub record Brings (code : List Instruction) (h : Holding) (written r v : ℕ) : Type 0 where
  pub can : CanDoAll code h
  pub value : (done_by_all code h).registers r ≡ v
  pub kept : (q : ℕ) → q ≢ written → q ≢ 5 → (done_by_all code h).registers q ≡ h.registers q
  pub memory : (done_by_all code h).memory ≡ h.memory
  pub input : (done_by_all code h).input ≡ h.input

-- Behind the words a word of memory is a value. No register but t0 is written, and the rest of memory and the input are
-- as they were.
pub record Stores (code : List Instruction) (h : Holding) (address v : ℕ) : Type 0 where
  pub can : CanDoAll code h
  pub kept : (q : ℕ) → q ≢ 5 → (done_by_all code h).registers q ≡ h.registers q
  pub memory : (done_by_all code h).memory ≡ with_bytes 4 address v h.memory
  pub input : (done_by_all code h).input ≡ h.input

-- A word of the stack stands at an offset from sp, which is register 2.
pub record HasSlot (h : Holding) (offset : ℕ) : Type 0 where
  pub aligned : (h.registers 2 + offset) % 4 ≡ 0
  pub low : stack_start h.regions ≤ h.registers 2
  pub high : h.registers 2 + offset + 4 ≤ stack_end h.regions

-- Each scratch register holds the word that it is said to hold.
abbrev pub HoldsAll : List Held → Holding → Type 0
HoldsAll [] h = Unit {0}
HoldsAll (x ∷ more) h = (h.registers x.register ≡ x.word) × HoldsAll more h

-- What a home holds, and what is read: a register, the word of a slot, or a word that is known.
abbrev pub value_of_home : StorageForm → Holding → Home → ℕ
value_of_home g h (Register r) = h.registers r
value_of_home g h (Slot k) = word_at h.memory (h.registers 2 + slot_at g k)

abbrev pub value_of : StorageForm → Holding → Source → ℕ
value_of g h (OfHome home) = value_of_home g h home
value_of g h (Word w) = w

-- What is read can be: a slot stands in the frame, and a word is one.
abbrev pub CanRead : StorageForm → Holding → Source → Type 0
CanRead g h (OfHome (Register r)) = Unit {0}
CanRead g h (OfHome (Slot k)) = HasSlot h (slot_at g k)
CanRead g h (Word w) = w + 1 ≤ 4294967296

-- A register is not the one that a home is.
abbrev pub IsNoHome : Home → (register : ℕ) → Type 0
IsNoHome (Register r) q = q ≢ r
IsNoHome (Slot k) q = Unit {0}

-- Memory in which a home became a value: a slot is a word of the frame.
abbrev pub memory_with : StorageForm → Holding → Home → (value : ℕ) → ℕ → ℕ
memory_with g h (Register r) v = h.memory
memory_with g h (Slot k) v = with_bytes 4 (h.registers 2 + slot_at g k) v h.memory

-- Behind the words a home holds a value. No other register but t0 is written, and the rest of memory and the input are
-- as they were.
pub record Writes (g : StorageForm) (code : List Instruction) (h : Holding) (home : Home) (v : ℕ) : Type 0 where
  pub can : CanDoAll code h
  pub value : value_of_home g (done_by_all code h) home ≡ v
  pub kept : (q : ℕ) → IsNoHome home q → q ≢ 5 → (done_by_all code h).registers q ≡ h.registers q
  pub memory : (done_by_all code h).memory ≡ memory_with g h home v
  pub input : (done_by_all code h).input ≡ h.input

-- A home can be written: a register that is none of x0, sp and t0, or a slot that stands in the frame.
abbrev pub CanWrite : StorageForm → Holding → Home → Type 0
CanWrite g h (Register r) = (1 ≤ r) × (r ≢ 2) × (r ≢ 5)
CanWrite g h (Slot k) = HasSlot h (slot_at g k)

-- No fetch writes the register: it is none of t0 to t2, which are 5 to 7.
pub record IsLeft (r : ℕ) : Type 0 where
  pub t0 : r ≢ 5
  pub t1 : r ≢ 6
  pub t2 : r ≢ 7

abbrev pub AreLeft : List Held → Type 0
AreLeft [] = Unit {0}
AreLeft (x ∷ more) = IsLeft x.register × AreLeft more

-- What is read can be, and is in no register that a fetch writes.
abbrev pub IsReadable : StorageForm → Holding → Source → Type 0
IsReadable g h (OfHome (Register r)) = IsLeft r
IsReadable g h (OfHome (Slot k)) = HasSlot h (slot_at g k)
IsReadable g h (Word w) = w + 1 ≤ 4294967296

-- Register 0 holds 0, gp the base, and scratch registers what they are said to hold; fetches leave these.
pub record CanFetch (g : StorageForm) (held : List Held) (h : Holding) : Type 0 where
  pub fits : g.base + 1 ≤ 4294967296
  pub none : h.registers 0 ≡ 0
  pub gp : h.registers 3 ≡ g.base
  pub all : HoldsAll held h
  pub left : AreLeft held

-- Behind the words a register holds a value. No other register but t0 to t2 is written, and memory and input are as
-- they were.
pub record Computes (code : List Instruction) (h : Holding) (r v : ℕ) : Type 0 where
  pub can : CanDoAll code h
  pub value : (done_by_all code h).registers r ≡ v
  pub kept : (q : ℕ) → q ≢ r → IsLeft q → (done_by_all code h).registers q ≡ h.registers q
  pub memory : (done_by_all code h).memory ≡ h.memory
  pub input : (done_by_all code h).input ≡ h.input

-- Behind the words a home holds a value. No other register but t0 to t2 is written, and the rest of memory and the
-- input are as they were.
pub record Makes (g : StorageForm) (code : List Instruction) (h : Holding) (home : Home) (v : ℕ) : Type 0 where
  pub can : CanDoAll code h
  pub value : value_of_home g (done_by_all code h) home ≡ v
  pub kept : (q : ℕ) → IsNoHome home q → IsLeft q → (done_by_all code h).registers q ≡ h.registers q
  pub memory : (done_by_all code h).memory ≡ memory_with g h home v
  pub input : (done_by_all code h).input ≡ h.input
