-- The call that made an activation.
use Rattle.std.specs.Prelude.{ℕ, ◌+◌, ◌-◌, ◌%◌, ◌==◌, ◌&&◌, if◌then◌else◌}
use Rattle.image_form.specs.Form.{Form}
use Rattle.rv_machine.specs.State.{MachineState, word, stack_start}
use Rattle.rv_machine.specs.Memory.{word_in}
use Rattle.stop_engine_view.specs.Reading.{is_stack_address, place_of_word}

-- The place of the word of code in front of an address, or 0 for none.
abbrev pub place_before : Form → ℕ → ℕ
place_before m a = place_of_word m (word (a + 4294967292))

-- The address to which an activation returns lies where its frame starts.
abbrev pub return_address : MachineState → (sp : ℕ) → ℕ
return_address s sp = word_in s.stack (sp - stack_start s.map)

-- The place of the call that made the activation whose frame starts there, or 0 where there is none: where the frame
-- does not start at an aligned address of the stack, or the word in front of the return address belongs to no place.
abbrev pub calling_place : Form → MachineState → (sp : ℕ) → ℕ
calling_place m s sp = if is_stack_address s sp && sp % 4 == 0 then place_before m (return_address s sp) else 0
