-- A word that begins with a letter is an identifier.
use Rattle.std.proofs.Common.{◌≡◌, ℕ, zero, suc, ◌+◌, Bool, true, false, cond, ◌&&◌, ◌||◌, nat_le, List, [], ◌∷◌, take, drop, get_or, refl, arith}
use Rattle.std.specs.Prelude.{nat_lt, ◌==◌}
use Rattle.std.specs.List.{list_all, prefix_len}
use Rattle.std.proofs.lemmas.Bool.Decides.{nat_tests}
use Rattle.c_token.specs.Bytes.{is_letter, is_digit, is_word_byte}
use Rattle.c_token.proofs.Runs.{all_of_prefix}
use Rattle.c_type_laws.specs.Names.{begins_identifier, is_identifier_byte, is_identifier}
use Rattle.base_laws.proofs.Booleans.{two_true}
pub use Rattle.base_laws.proofs.Booleans.{both as both_true}

pub no_longer : (n : ℕ) → nat_lt 63 n ≡ false → nat_le n 63 ≡ true
no_longer n h = grind (arith, nat_tests)

-- the same letters, told in another order
in_order : (a b c : Bool) → a || (b || c) ≡ true → b || a || c ≡ true
in_order true true c h = refl
in_order true false c h = refl
in_order false true c h = refl
in_order false false true h = refl
in_order false false false h = cc

begins : (b : ℕ) → is_letter b ≡ true → begins_identifier b ≡ true
unfolding is_letter
begins b h = in_order (nat_le 65 b && nat_le b 90) (nat_le 97 b && nat_le b 122) (b == 95) h

either : (a b c : Bool) → (a ≡ true → c ≡ true) → a || b ≡ true → c || b ≡ true
either true b c f h = rw (f refl) refl
either false true true f h = refl
either false true false f h = refl
either false false c f h = cc

continues : (b : ℕ) → is_word_byte b ≡ true → is_identifier_byte b ≡ true
unfolding is_word_byte is_digit
continues b h = either (is_letter b) (nat_le 48 b && nat_le b 57) (begins_identifier b) (begins b) h

all_continue : (l : List ℕ) → list_all is_word_byte l ≡ true → list_all is_identifier_byte l ≡ true
all_continue [] h = refl
all_continue (b ∷ l) h = let c = two_true (is_word_byte b) (list_all is_word_byte l) h in both_true (is_identifier_byte b) (list_all is_identifier_byte l) (continues b c.0) (all_continue l c.1)

letter_is_word : (b : ℕ) → is_letter b ≡ true → is_word_byte b ≡ true
unfolding is_word_byte
letter_is_word b h = rw h refl

here : (b : ℕ) (l : List ℕ) → is_letter b ≡ true → is_identifier (take (prefix_len is_word_byte (b ∷ l)) (b ∷ l)) ≡ true
here b l h = by (is_word_byte b) (letter_is_word b h)
  where
    by : (t : Bool) → t ≡ true → is_identifier (take (cond t (1 + prefix_len is_word_byte l) 0) (b ∷ l)) ≡ true
    by true e = let next : 1 + prefix_len is_word_byte l ≡ suc (prefix_len is_word_byte l) = omega arith in
        rw next (both_true (begins_identifier b) (list_all is_identifier_byte (take (prefix_len is_word_byte l) l)) (begins b h) (all_continue (take (prefix_len is_word_byte l) l) (all_of_prefix is_word_byte l)))
    by false e = cc

-- The longest run of letters and digits at an offset where a letter stands is an identifier.
pub word_identifies : (text : List ℕ) (at : ℕ) → is_letter (get_or text at 0) ≡ true → is_identifier (take (prefix_len is_word_byte (drop at text)) (drop at text)) ≡ true
unfolding is_letter
word_identifies [] at h = cc
word_identifies (b ∷ text) zero h = here b text h
word_identifies (b ∷ text) (suc at) h = word_identifies text at h
