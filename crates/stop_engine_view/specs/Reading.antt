-- What a debugger reads from an image and a state of its machine.
use Rattle.std.specs.Prelude.{ℕ, zero, suc, ◌+◌, ◌-◌, ◌/◌, ◌%◌, ◌==◌, ◌&&◌, nat_lt, nat_le, ℤ, Bool, if◌then◌else◌, Option, Some, None, List, [], ◌∷◌, slice_get, slice_index}
use Rattle.std.specs.Option.{option_map_or}
use Rattle.std.specs.Int.{cast_signed, w32}
use Rattle.image_form.specs.Form.{Form, numbered}
use Rattle.image_form.specs.declared.tables.Function.{Function}
use Rattle.image_form.specs.declared.tables.Place.{Place}
use Rattle.rv_machine.specs.State.{MachineState, reg, word, code_start, stack_start, stack_end}
use Rattle.rv_machine.specs.Memory.{word_in}

-- the number of the first place with this address, counted on from a number
abbrev pub place_from : ℕ → List Place → ℕ → Option ℕ
place_from number [] address = None
place_from number (p ∷ places) address =
    if p.address == address then Some number else place_from (number + 1) places address

-- the place that begins at an address; no two places of an image share one
abbrev pub place_at : Form → ℕ → Option ℕ
place_at m address = place_from 1 m.places address

-- The depth of the innermost activation, 1 for the first of main: tp (register 4) counts those that may still begin, of
-- 1,024.
abbrev pub depth : MachineState → ℕ
depth s = word (1024 + (4294967296 - reg s 4))

-- whether an address is one of the stack
abbrev pub is_stack_address : MachineState → ℕ → Bool
is_stack_address s a = nat_le (stack_start s.map) a && nat_lt a (stack_end s.map)

-- The word in a slot of the innermost activation: it lies at an offset from sp. Where it does not lie wholly in the
-- stack it reads as 0.
abbrev pub slot_word : MachineState → ℕ → ℕ
slot_word s offset =
    if is_stack_address s (reg s 2) && nat_le (reg s 2 + offset + 4) (stack_end s.map)
    then word_in s.stack (reg s 2 - stack_start s.map + offset) else 0

-- the place that a code word belongs to, by the word's address, or 0 for none
abbrev pub place_of_word : Form → ℕ → ℕ
place_of_word m a = if a % 4 == 0 && nat_le code_start a then slice_index m.owners ((a - code_start) / 4) else 0

-- the size of the frame of a place's function
abbrev pub frame_of : Form → ℕ → ℕ
frame_of m place =
    option_map_or (λ (p : Place). option_map_or (λ (f : Function). f.frame) (slice_get m.functions p.function) 0)
    (numbered m.places place) 0

-- The places of at most so many activations, from one with this place and frame on. At the frame's start lies the
-- address to which the activation returns: the call stands in the word before it, whose place is the next activation's,
-- and that one's frame begins where this one ends. There is no next one where the frame does not begin at an aligned
-- address of the stack, or the word before the return address belongs to no place.
abbrev pub frames_from : ℕ → Form → MachineState → (place sp : ℕ) → List ℕ
frames_from zero m s place sp = []
frames_from (suc n) m s place sp =
    place ∷ (if is_stack_address s sp && sp % 4 == 0
    then (if place_of_word m (word (word_in s.stack (sp - stack_start s.map) + 4294967292)) == 0 then []
    else frames_from n m s (place_of_word m (word (word_in s.stack (sp - stack_start s.map) + 4294967292)))
    (word (sp + frame_of m place)))
    else [])

-- how many activations may be live: not to be computed with
unfoldable pub greatest_depth : ℕ
greatest_depth = 1024

-- the places of the activations at a stop, the stop's own first
abbrev pub frames : Form → MachineState → ℕ → List ℕ
frames m s place = frames_from greatest_depth m s place (reg s 2)

-- the int that a word holds
abbrev pub int_of_word : ℕ → ℤ
int_of_word w = cast_signed w32 w
