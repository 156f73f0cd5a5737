-- Names are texts of ASCII.
use Rattle.std.proofs.Common.{◌≡◌, ℕ, zero, suc, ◌<◌, true, List, [], ◌∷◌, lit<, arith}
use Rattle.std.specs.List.{list_all}
use Rattle.std.specs.Str.{IsAscii, IsUtf8}
use Rattle.std.proofs.lemmas.Bool.{and_parts}
use Rattle.std.proofs.lemmas.Bool.Decides.{nat_tests}
use Rattle.std.proofs.lemmas.Str.{IsUtf8-from_ascii}
use Rattle.script_form.specs.Script.{begins_name, is_name, is_name_byte}

first_is_ascii : (b : ℕ) → begins_name b ≡ true → b < 128
first_is_ascii b name = grind (arith, nat_tests)

name_byte_is_ascii : (b : ℕ) → is_name_byte b ≡ true → b < 128
name_byte_is_ascii b name = grind (arith, nat_tests)

others_are_ascii : (name : List ℕ) → list_all is_name_byte name ≡ true → IsAscii name
others_are_ascii [] all i = lit< tt
others_are_ascii (b ∷ name) all zero = name_byte_is_ascii b (and_parts (is_name_byte b) (list_all is_name_byte name) all).0
others_are_ascii (b ∷ name) all (suc i) = others_are_ascii name (and_parts (is_name_byte b) (list_all is_name_byte name) all).1 i

name_is_ascii : (name : List ℕ) → is_name name ≡ true → IsAscii name
name_is_ascii [] is_name i = lit< tt
name_is_ascii (b ∷ name) is_name zero = first_is_ascii b (and_parts (begins_name b) (list_all is_name_byte name) is_name).0
name_is_ascii (b ∷ name) is_name (suc i) = others_are_ascii name (and_parts (begins_name b) (list_all is_name_byte name) is_name).1 i

-- a name is a text
pub name_is_text : (name : List ℕ) → is_name name ≡ true → IsUtf8 name
name_is_text name is_name = IsUtf8-from_ascii name (name_is_ascii name is_name)
