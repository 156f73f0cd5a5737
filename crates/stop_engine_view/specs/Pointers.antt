-- What a pointer points to.
use Rattle.std.specs.Prelude.{ℕ, zero, suc, ◌+◌, ◌-◌, ◌*◌, ◌<◌, ◌==◌, nat_le, Bool, false, if◌then◌else◌, Option, Some, None, List, [], ◌∷◌}
use Rattle.std.specs.Option.{option_map_or}
use Rattle.image_form.specs.Form.{Form, numbered}
use Rattle.image_form.specs.Names.{variable_name}
use Rattle.image_form.specs.declared.tables.Place.{Place}
use Rattle.image_form.specs.declared.variables.Storage.{Storage}
use Rattle.image_form.specs.declared.variables.Storage.TheVariants as kept
use Rattle.image_form.specs.declared.variables.Variable.{Variable}
use Rattle.rv_machine.specs.State.{MachineState, reg, word}
use Rattle.line_form.specs.Values.{null_text, static_pointer, literal_pointer, frame_pointer, unknown_pointer}
use Rattle.stop_engine_view.specs.declared.target.Target.{Target}
use Rattle.stop_engine_view.specs.declared.target.Target.TheVariants.{Static, Literal, Local}
use Rattle.stop_engine_view.specs.Reading.{depth, frame_of, greatest_depth}
use Rattle.stop_engine_view.specs.Callers.{calling_place}
use Rattle.stop_engine_view.specs.Words.{element_size}

-- how many bytes an address lies behind the start of an object, around the end of the addresses
abbrev pub offset_from : (address start : ℕ) → ℕ
offset_from address start = word (address + (4294967296 - start))

-- how many bytes a variable has
abbrev pub variable_size : Variable → ℕ
variable_size v = (if v.count == 0 then 1 else v.count) * element_size v.element

-- whether an address lies in an object that starts there, or directly behind it
abbrev pub is_within : Variable → (start address : ℕ) → Bool
is_within v start address = nat_le (offset_from address start) (variable_size v)

-- where a static object starts
abbrev pub static_start : Storage → Option ℕ
static_start (kept.Static address) = Some address
static_start (kept.Frame offset) = None
static_start (kept.Register number) = None
static_start (kept.Slot offset) = None

-- where an object of a frame starts
abbrev pub local_start : (frame : ℕ) → Storage → Option ℕ
local_start frame (kept.Static address) = None
local_start frame (kept.Frame offset) = Some (word (frame + offset))
local_start frame (kept.Register number) = None
local_start frame (kept.Slot offset) = None

-- 1 for a string literal, which has no name
abbrev pub literal_count : Variable → ℕ
literal_count v = if v.name_length == 0 then 1 else 0

-- the static object or literal to which so many bytes lead
abbrev pub static_target_of : Variable → (index number offset : ℕ) → Target
static_target_of v index number offset = if v.name_length == 0 then Literal number offset else Static index offset

-- how far behind the start of an object an address lies, if it lies in it or directly behind it
abbrev pub offset_within : Variable → (start address : ℕ) → Option ℕ
offset_within v start address = if is_within v start address then Some (offset_from address start) else None

-- the same of a static object, and of an object of a function's frame
abbrev pub static_offset : Variable → (address : ℕ) → Option ℕ
static_offset v address = option_map_or (λ start. offset_within v start address) (static_start v.storage) None

-- The first static object in which, or directly behind which, an address lies; variables and literals are counted on
-- from these numbers.
abbrev pub static_target : (address index count : ℕ) → List Variable → Option Target
static_target address index count [] = None
static_target address index count (v ∷ variables) =
    option_map_or (λ offset. Some (static_target_of v index (count + literal_count v) offset)) (static_offset v address)
    (static_target address (index + 1) (count + literal_count v) variables)

-- whether a variable is one of a function
abbrev pub is_variable_of : (function : ℕ) → Variable → Bool
is_variable_of function v = option_map_or (λ f. f == function) v.function false

-- how far into an automatic variable of a function's frame an address lies, if it does
abbrev pub local_offset : Variable → (function frame address : ℕ) → Option ℕ
local_offset v function frame address =
    if is_variable_of function v
    then option_map_or (λ start. offset_within v start address) (local_start frame v.storage) None else None

-- The first object of a function's frame in which, or directly behind which, an address lies.
abbrev pub local_target : (address function frame deep index : ℕ) → List Variable → Option Target
local_target address function frame deep index [] = None
local_target address function frame deep index (v ∷ variables) =
    option_map_or (λ offset. Some (Local index deep offset)) (local_offset v function frame address)
    (local_target address function frame deep (index + 1) variables)

-- the number of a place's function
abbrev pub function_of_place : Form → ℕ → ℕ
function_of_place m place = option_map_or (λ (p : Place). p.function) (numbered m.places place) 0

-- the one, or where there is none the other
abbrev pub target_or_else : Option Target → Option Target → Option Target
target_or_else (Some t) other = Some t
target_or_else None other = other

-- The first object of at most so many activations, from one with this place, frame and depth on to those that called
-- it.
abbrev pub stack_target : ℕ → Form → MachineState → (address place frame deep : ℕ) → Option Target
stack_target zero m s address place frame deep = None
stack_target (suc n) m s address place frame deep =
    target_or_else (local_target address (function_of_place m place) frame deep 0 m.variables)
    (if calling_place m s frame == 0 then None
    else stack_target n m s address (calling_place m s frame) (word (frame + frame_of m place))
    (word (deep + 4294967295)))

-- the object that an address is taken for: static ones come before those of activations, and the innermost activation
-- first
abbrev pub pointed_at : Form → MachineState → (place address : ℕ) → Option Target
pointed_at m s place address =
    target_or_else (static_target address 0 0 m.variables)
    (stack_target greatest_depth m s address place (reg s 2) (depth s))

-- what names a variable names one of so many
abbrev pub IsTargetOf : ℕ → Target → Type 0
IsTargetOf count (Static variable offset) = variable < count
IsTargetOf count (Literal number offset) = Unit {0}
IsTargetOf count (Local variable deep offset) = variable < count

-- the text of a pointer to it
abbrev pub target_text : Form → Target → List ℕ
target_text m (Static variable offset) = static_pointer (variable_name m variable) offset
target_text m (Literal number offset) = literal_pointer number offset
target_text m (Local variable deep offset) = frame_pointer (variable_name m variable) deep offset

-- the text of a pointer where the session stands at a place
unfoldable pub pointer_text : Form → MachineState → (place address : ℕ) → List ℕ
pointer_text m s place address =
    if address == 0 then null_text
    else option_map_or (target_text m) (pointed_at m s place address) (unknown_pointer address)
