-- The text of the word of a number is the number in decimal.
use Rattle.std.proofs.Common.{◌≡◌, ℕ, ◌%◌, ◌≤◌, true, ◌&&◌, ap, ◌∙◌, arith, ℤ, pos, negsuc}
use Rattle.std.specs.Prelude.{int_le}
use Rattle.std.specs.Int.{cast_signed, cast_unsigned, w8, w16, w32}
use Rattle.std.specs.Int.RustNames.{FitsSigned}
use Rattle.std.proofs.lemmas.Bool.{leb-true, and_parts}
use Rattle.std.proofs.lemmas.Int.{ints, to_z-of_z}
use Rattle.word_base.specs.Types.{holds}
use Rattle.c_tree.specs.declared.types.IntegerType.{IntegerType}
use Rattle.c_tree.specs.declared.types.IntegerType.TheVariants.{Char, SignedChar, UnsignedChar, Short, UnsignedShort, Int, UnsignedInt, Long, UnsignedLong}
use Rattle.c_type_rules.specs.Integers.{integer}
use Rattle.image_build_tables.specs.Variables.{element_of_integer}
use Rattle.image_form.specs.Form.{Form}
use Rattle.line_form.specs.Decimal.{decimal, signed_decimal}
use Rattle.rv_machine.specs.State.{MachineState}
use Rattle.stop_engine_view.specs.Reading.{int_of_word}
use Rattle.stop_engine_view.specs.Values.{word_text}
use Rattle.image_truth_units.specs.Standing.{word_of_number}

-- ---- Numbers of the types without a sign

-- a number from 0 on that is one of a type is at most the type's greatest
small : (n most : ℕ) → int_le (pos 0) (pos n) && int_le (pos n) (pos most) ≡ true → n ≤ most
small n most h = leb-true n most (and_parts (int_le (pos 0) (pos n)) (int_le (pos n) (pos most)) h).1

char_shown : (z : ℤ) → holds (integer Char) z ≡ true → decimal (word_of_number z % 256) ≡ signed_decimal z
char_shown (pos n) h = let le = small n 255 h in let same : n % 4294967296 % 256 ≡ n = omega (arith, le) in ap decimal same
char_shown (negsuc n) h = cc

short_shown : (z : ℤ) → holds (integer UnsignedShort) z ≡ true → decimal (word_of_number z % 65536) ≡ signed_decimal z
short_shown (pos n) h = let le = small n 65535 h in let same : n % 4294967296 % 65536 ≡ n = omega (arith, le) in ap decimal same
short_shown (negsuc n) h = cc

unsigned_shown : (z : ℤ) → holds (integer UnsignedInt) z ≡ true → decimal (word_of_number z) ≡ signed_decimal z
unsigned_shown (pos n) h = let le = small n 4294967295 h in let same : n % 4294967296 ≡ n = omega (arith, le) in ap decimal same
unsigned_shown (negsuc n) h = cc

-- ---- Numbers of the types with a sign

signed_char_again : (z : ℤ) → holds (integer SignedChar) z ≡ true → cast_signed w8 (word_of_number z % 256) ≡ z
signed_char_again (pos n) h = let le : n ≤ 127 = leb-true n 127 h in omega (arith, ints, le)
signed_char_again (negsuc n) h =
    let le : n ≤ 127 = leb-true n 127 (and_parts (int_le (negsuc 127) (negsuc n)) true h).0 in
    let fits : FitsSigned w8 (negsuc n) = record { sfits = omega (arith, le) } in
    let same : word_of_number (negsuc n) % 256 ≡ cast_unsigned w8 (negsuc n) = omega (arith, ints, le) in
    ap (cast_signed w8) same ∙ to_z-of_z w8 (negsuc n) fits

signed_short_again : (z : ℤ) → holds (integer Short) z ≡ true → cast_signed w16 (word_of_number z % 65536) ≡ z
signed_short_again (pos n) h = let le : n ≤ 32767 = leb-true n 32767 h in omega (arith, ints, le)
signed_short_again (negsuc n) h =
    let le : n ≤ 32767 = leb-true n 32767 (and_parts (int_le (negsuc 32767) (negsuc n)) true h).0 in
    let fits : FitsSigned w16 (negsuc n) = record { sfits = omega (arith, le) } in
    let same : word_of_number (negsuc n) % 65536 ≡ cast_unsigned w16 (negsuc n) = omega (arith, ints, le) in
    ap (cast_signed w16) same ∙ to_z-of_z w16 (negsuc n) fits

int_again : (z : ℤ) → holds (integer Int) z ≡ true → int_of_word (word_of_number z) ≡ z
int_again (pos n) h = let le : n ≤ 2147483647 = leb-true n 2147483647 h in omega (arith, ints, le)
int_again (negsuc n) h =
    let le : n ≤ 2147483647 = leb-true n 2147483647 (and_parts (int_le (negsuc 2147483647) (negsuc n)) true h).0 in
    let fits : FitsSigned w32 (negsuc n) = record { sfits = omega (arith, le) } in
    let same : word_of_number (negsuc n) ≡ cast_unsigned w32 (negsuc n) = omega (arith, ints, le) in
    ap (cast_signed w32) same ∙ to_z-of_z w32 (negsuc n) fits

-- ---- All types

-- The word of a number of an integer type is shown as this number.
pub number_shown : (m : Form) (s : MachineState) (place : ℕ) (t : IntegerType) (z : ℤ) → holds (integer t) z ≡ true → word_text m s place (element_of_integer t) (word_of_number z) ≡ signed_decimal z
number_shown m s place Char z h = char_shown z h
number_shown m s place SignedChar z h = ap signed_decimal (signed_char_again z h)
number_shown m s place UnsignedChar z h = char_shown z h
number_shown m s place Short z h = ap signed_decimal (signed_short_again z h)
number_shown m s place UnsignedShort z h = short_shown z h
number_shown m s place Int z h = ap signed_decimal (int_again z h)
number_shown m s place UnsignedInt z h = unsigned_shown z h
number_shown m s place Long z h = ap signed_decimal (int_again z h)
number_shown m s place UnsignedLong z h = unsigned_shown z h
