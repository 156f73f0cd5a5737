-- Frames: the return address at the bottom, then the home registers that the function writes, then its slots, then its
-- memory objects, each with a word behind it.
use Rattle.std.specs.Prelude.{ℕ, ◌+◌, ◌*◌, ◌/◌, ◌==◌, ◌||◌, max, Bool, false, List, [], ◌∷◌}
use Rattle.std.specs.Option.{option_map_or}
use Rattle.std.specs.List.{list_any, filter}
use Rattle.graph_homes.specs.declared.home.Home.{Home}
use Rattle.graph_homes.specs.declared.home.Home.TheVariants.{Register, Slot}
use Rattle.graph_core.specs.declared.graph.MemoryObject.{MemoryObject}
use Rattle.graph_core.specs.Graphs.{Instruction, Block, Binding, ToScalar, ToObject, Graph}
use Rattle.graph_core.specs.Uses.{target_of}
use Rattle.graph_core.specs.Validity.{taken_by_object, total}

-- the registers that may be homes, by number
abbrev pub home_registers : List ℕ
home_registers = 9 ∷ 18 ∷ 19 ∷ 20 ∷ 21 ∷ 22 ∷ 23 ∷ 24 ∷ 25 ∷ 26 ∷ 27 ∷ 28 ∷ 29 ∷ 30 ∷ 31 ∷ []

-- a home is this register
abbrev pub is_register : (r : ℕ) → Home → Bool
is_register r (Register q) = q == r
is_register r (Slot k) = false

module _ (home : ℕ → Home) where
  -- an instruction writes a register, of which it may have no other home
  abbrev pub writes_register : (r : ℕ) → Instruction → Bool
  writes_register r i = option_map_or (λ x. is_register r (home x)) (target_of i) false

  -- a parameter is bound to a name whose home is this register
  abbrev pub binds_register : (r : ℕ) → Binding → Bool
  binds_register r (ToScalar x) = is_register r (home x)
  binds_register r (ToObject object) = false

  -- the function writes a register: as a call binds its parameters, or in a block, whether a path reaches that or not
  abbrev pub is_written : Graph → (r : ℕ) → Bool
  is_written g r =
      list_any (binds_register r) g.parameters
      || list_any (λ (b : Block). list_any (writes_register r) b.instructions) g.blocks

  -- the registers that its frame keeps for its caller, from 4 bytes on
  abbrev pub saved : Graph → List ℕ
  saved g = filter (is_written g) home_registers

-- one more than the greatest slot among homes
abbrev pub slot_count : List Home → ℕ
slot_count [] = 0
slot_count (Register r ∷ more) = slot_count more
slot_count (Slot k ∷ more) = max (k + 1) (slot_count more)

-- where slots begin, behind so many saved registers
abbrev pub slots_start : (saved_count : ℕ) → ℕ
slots_start n = 4 + 4 * n

-- the offset of a slot
abbrev pub slot_offset : (saved_count slot : ℕ) → ℕ
slot_offset n k = slots_start n + 4 * k

-- where memory objects begin
abbrev pub objects_start : (saved_count slot_count : ℕ) → ℕ
objects_start n k = slots_start n + 4 * k

-- the offsets of objects that lie one behind the other
abbrev pub object_offsets : (offset : ℕ) → List MemoryObject → List ℕ
object_offsets offset [] = []
object_offsets offset (o ∷ more) = offset ∷ object_offsets (offset + taken_by_object o) more

-- the size of a frame, a multiple of 16
abbrev pub frame_size : (saved_count slot_count : ℕ) → List MemoryObject → ℕ
frame_size n k objects = (objects_start n k + total taken_by_object objects + 15) / 16 * 16
