-- Where code of a function finds values.
use Rattle.std.specs.Prelude.{ℕ, ◌+◌, ◌*◌, ◌%◌, List, slice_index}
use Rattle.graph_homes.specs.declared.home.Home.{Home}
use Rattle.graph_core.specs.Graphs.{Operand, Name, Constant, StaticAddress}
use Rattle.rv_emit_storage.specs.declared.storage.Storage as declared-storage
use Rattle.rv_emit_storage.specs.declared.storage.Source.{Source}
use Rattle.rv_emit_storage.specs.declared.storage.Source.TheVariants.{Home as OfHome, Word}
use Rattle.rv_emit_storage.specs.Kept.{home_in}

-- The homes of a function's names, the offset of slot 0 in its frame and that of each memory object, the addresses of
-- the static objects and of the bytes that initialise arrays, and the address that gp holds.
pub record StorageForm : Type 0 where
  pub homes : List Home
  pub slots : ℕ
  pub objects : List ℕ
  pub statics : List ℕ
  pub arrays : List ℕ
  pub base : ℕ

-- what the code has of it
abbrev pub storage_view : declared-storage.Storage → StorageForm
storage_view s = record {
  homes = s.homes.now;
  slots = s.frame.now.slots;
  objects = s.frame.now.objects.items;
  statics = s.statics.now.objects.items;
  arrays = s.statics.now.array_bytes.items;
  base = s.base;
}

-- the home of a name
abbrev pub home_at : StorageForm → (name : ℕ) → Home
home_at g x = home_in g.homes x

-- the offset of a slot in the frame, and that of a memory object
abbrev pub slot_at : StorageForm → (slot : ℕ) → ℕ
slot_at g k = (g.slots + k * 4 % 4294967296) % 4294967296

-- where an automatic object lies, as an offset from the stack pointer
abbrev pub object_at : StorageForm → (object : ℕ) → ℕ
object_at g n = slice_index g.objects n

-- the address of a static object, and that of the bytes that initialise an array
abbrev pub static_object_at : StorageForm → (object : ℕ) → ℕ
static_object_at g n = slice_index g.statics n

-- the address of the bytes that initialise an array
abbrev pub array_bytes_at : StorageForm → (bytes : ℕ) → ℕ
array_bytes_at g n = slice_index g.arrays n

-- What reading an operand reads: the home of its name, or a word that is known.
abbrev pub source_of : StorageForm → Operand → Source
source_of g (Name x) = OfHome (home_at g x)
source_of g (Constant w) = Word w
source_of g (StaticAddress object offset) = Word ((static_object_at g object + offset) % 4294967296)
