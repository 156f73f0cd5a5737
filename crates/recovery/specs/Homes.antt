-- What homes hold.
use Rattle.std.specs.Prelude.{ℕ, ◌+◌, ◌*◌, nat_le, if◌then◌else◌, List, length, slice_index}
use Rattle.recovery.specs.declared.home.FrameHome.{FrameHome}
use Rattle.recovery.specs.declared.home.FrameHome.TheVariants.{Register, Slot}

-- the word of the four bytes from an offset on, the lowest first
abbrev pub word_from : List ℕ → ℕ → ℕ
word_from bytes i =
    slice_index bytes i + slice_index bytes (i + 1) * 256 + slice_index bytes (i + 2) * 65536
    + slice_index bytes (i + 3) * 16777216

-- the word in a slot, of the stack from the frame on; 0 where the slot does not lie wholly in it
unfoldable pub slot_value : (ram : List ℕ) → (offset : ℕ) → ℕ
slot_value ram offset = if nat_le (offset + 4) (length ram) then word_from ram offset else 0

-- what a home holds; a register above 31 reads as 0
abbrev pub home_value : (registers ram : List ℕ) → FrameHome → ℕ
home_value registers ram (Register number) = slice_index registers number
home_value registers ram (Slot offset) = slot_value ram offset
