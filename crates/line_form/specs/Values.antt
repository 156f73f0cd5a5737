-- How the values of arrays and pointers are shown.
use Rattle.std.specs.Prelude.{ℕ, Bool, if◌then◌else◌, List, [], ◌∷◌, ◌++◌, flat_map, codes}
use Rattle.line_form.specs.Decimal.{decimal}
use Rattle.line_form.specs.Hexadecimal.{hexadecimal}
use Rattle.line_form.specs.Lines.{value_line}

-- a text with a comma and a space in front
abbrev pub next_value : List ℕ → List ℕ
next_value value = codes ", " ++ value

-- texts with a comma and a space between each and the next one
abbrev pub comma_separated : List (List ℕ) → List ℕ
comma_separated [] = []
comma_separated (value ∷ values) = value ++ flat_map next_value values

-- {VALUE, VALUE}, or {VALUE, VALUE, ...} where there are more elements
unfoldable pub array_text : List (List ℕ) → (more : Bool) → List ℕ
array_text values more = codes "{" ++ (comma_separated values ++ ((if more then codes ", ..." else []) ++ codes "}"))

-- NAME = VALUE, of a member of a structure
unfoldable pub member_text : (name value : List ℕ) → List ℕ
member_text name value = value_line name value

-- {NAME = VALUE, NAME = VALUE}, of these members
unfoldable pub structure_text : (members : List (List ℕ)) → List ℕ
structure_text members = codes "{" ++ (comma_separated members ++ codes "}")

-- null, the pointer to nothing
unfoldable pub null_text : List ℕ
null_text = codes "null"

-- &NAME+OFFSET, in bytes from the start of a static object
unfoldable pub static_pointer : (name : List ℕ) → (offset : ℕ) → List ℕ
static_pointer name offset = codes "&" ++ (name ++ (codes "+" ++ decimal offset))

-- &#NUMBER+OFFSET, in bytes from the start of a string literal
unfoldable pub literal_pointer : (number offset : ℕ) → List ℕ
literal_pointer number offset = codes "&#" ++ (decimal number ++ (codes "+" ++ decimal offset))

-- &NAME@DEPTH+OFFSET, in bytes from the start of an object of the activation at a depth
unfoldable pub frame_pointer : (name : List ℕ) → (depth offset : ℕ) → List ℕ
frame_pointer name depth offset = codes "&" ++ (name ++ (codes "@" ++ (decimal depth ++ (codes "+" ++ decimal offset))))

-- ?0xADDRESS in eight digits, of a pointer to no object
unfoldable pub unknown_pointer : (address : ℕ) → List ℕ
unknown_pointer address = codes "?0x" ++ hexadecimal 8 address
