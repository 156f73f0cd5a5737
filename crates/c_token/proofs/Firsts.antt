-- The first byte of a word and of a constant.
use Rattle.std.proofs.Common.{◌≡◌, ℕ, ◌+◌, Bool, true, false, ◌&&◌, ◌||◌, eqb, List, get_or, refl}
use Rattle.c_token.specs.Bytes.{is_letter, is_digit, is_word_byte}
use Rattle.c_token.specs.Constants.{is_number_byte}
use Rattle.c_token.specs.Items.{begins_constant}
use Rattle.base_laws.proofs.Booleans.{letter_first}

number_first : (letter digit point next : Bool) → (digit || (point && next)) ≡ true → ((letter || digit) || point) ≡ true
number_first true digit point next h = refl
number_first false true point next h = refl
number_first false false true next h = refl
number_first false false false next h = absurd cc

pub letter_begins : (b : ℕ) → is_letter b ≡ true → is_word_byte b ≡ true
unfolding is_word_byte
letter_begins b h = letter_first (is_letter b) (is_digit b) h

pub number_begins : (text : List ℕ) (at : ℕ) → begins_constant text at ≡ true → is_number_byte (get_or text at 0) ≡ true
unfolding begins_constant is_number_byte is_word_byte
number_begins text at h = number_first (is_letter (get_or text at 0)) (is_digit (get_or text at 0)) (eqb (get_or text at 0) 46) (is_digit (get_or text (at + 1) 0)) h
