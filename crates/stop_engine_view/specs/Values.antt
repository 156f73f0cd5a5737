-- The texts of the values of variables.
use Rattle.std.specs.Prelude.{ℕ, zero, suc, ◌+◌, ◌%◌, ◌==◌, nat_lt, min, if◌then◌else◌, List, [], ◌∷◌, slice_get}
use Rattle.std.specs.Option.{option_map_or}
use Rattle.std.specs.Int.{cast_signed, w8, w16}
use Rattle.image_form.specs.Form.{Form}
use Rattle.image_form.specs.declared.variables.ElementType.{ElementType}
use Rattle.image_form.specs.declared.variables.ElementType.TheVariants.{U8, I8, U16, I16, U32, I32, Pointer}
use Rattle.image_form.specs.declared.variables.Storage.{Storage}
use Rattle.image_form.specs.declared.variables.Storage.TheVariants.{Static, Frame, Register, Slot}
use Rattle.image_form.specs.declared.variables.Variable.{Variable}
use Rattle.line_form.specs.Decimal.{decimal, signed_decimal}
use Rattle.line_form.specs.Values.{array_text}
use Rattle.rv_machine.specs.State.{MachineState, reg, word}
use Rattle.stop_engine_view.specs.Reading.{int_of_word}
use Rattle.stop_engine_view.specs.Words.{element_size, element_word, home_word}
use Rattle.stop_engine_view.specs.Pointers.{pointer_text}
use Rattle.stop_engine_view.specs.Recipes.{recipe_value}

-- the text of a word as a value of a type, which takes as many low bits as the type has
abbrev pub word_text : Form → MachineState → (place : ℕ) → ElementType → ℕ → List ℕ
word_text m s place U8 w = decimal (w % 256)
word_text m s place I8 w = signed_decimal (cast_signed w8 (w % 256))
word_text m s place U16 w = decimal (w % 65536)
word_text m s place I16 w = signed_decimal (cast_signed w16 (w % 65536))
word_text m s place U32 w = decimal w
word_text m s place I32 w = signed_decimal (int_of_word w)
word_text m s place Pointer w = pointer_text m s place w

-- the texts of so many elements, from an address on
abbrev pub element_texts : Form → MachineState → (place : ℕ) → ElementType → ℕ → (address : ℕ) → List (List ℕ)
element_texts m s place element zero address = []
element_texts m s place element (suc n) address =
    word_text m s place element (element_word s element address)
    ∷ element_texts m s place element n (word (address + element_size element))

-- how many elements of an array are shown at most
unfoldable pub most_elements : ℕ
most_elements = 64

-- the text of a scalar or an array in memory
abbrev pub memory_text : Form → MachineState → (place : ℕ) → Variable → (address : ℕ) → List ℕ
memory_text m s place v address =
    if v.count == 0 then word_text m s place v.element (element_word s v.element address)
    else array_text (element_texts m s place v.element (min v.count most_elements) address)
    (nat_lt most_elements v.count)

-- the text of what is kept there
abbrev pub stored_text : Form → MachineState → (place : ℕ) → Variable → Storage → List ℕ
stored_text m s place v (Static address) = memory_text m s place v address
stored_text m s place v (Frame offset) = memory_text m s place v (word (reg s 2 + offset))
stored_text m s place v (Register number) = word_text m s place v.element (home_word s (Register number))
stored_text m s place v (Slot offset) = word_text m s place v.element (home_word s (Slot offset))

-- the text of what a variable's own storage holds
abbrev pub variable_text : Form → MachineState → (place : ℕ) → Variable → List ℕ
variable_text m s place v = stored_text m s place v v.storage

-- how many levels a recipe has at most
unfoldable pub recipe_levels : ℕ
recipe_levels = 4

-- the text of the value of a recipe, as one of a variable's type
abbrev pub recovered_text : Form → MachineState → (place variable node : ℕ) → List ℕ
recovered_text m s place variable node =
    option_map_or (λ (v : Variable). word_text m s place v.element (recipe_value m s recipe_levels node))
    (slice_get m.variables variable) []

-- the text of the value that a variable's home holds
abbrev pub held_text : Form → MachineState → (place variable : ℕ) → List ℕ
held_text m s place variable =
    option_map_or (λ (v : Variable). variable_text m s place v) (slice_get m.variables variable) []
