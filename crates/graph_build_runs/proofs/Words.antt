-- Numbers of C and their words.
use Rattle.std.proofs.Common.{◌≡◌, ◌+◌, ◌-◌, ◌%◌, ◌<◌, ◌≤◌, Bool, true, false, Some, None, refl, sym, ap, ◌∙◌, subst, arith, ℤ, pos, negsuc, ◌+ℤ◌, ◌-ℤ◌}
use Rattle.std.specs.Prelude.{if◌then◌else◌, int_le}
use Rattle.std.proofs.lemmas.Bool.{leb-true}
use Rattle.std.proofs.lemmas.Int.{ints}
use Rattle.c_tree.specs.declared.types.IntegerType.{IntegerType}
use Rattle.c_tree.specs.declared.types.IntegerType.TheVariants.{Char, SignedChar, UnsignedChar, Short, UnsignedShort, Int, UnsignedInt, Long, UnsignedLong}
use Rattle.word_base.specs.Types.{holds, in_range, converted, modulo, unsigned_type, int_type}
use Rattle.word_base.specs.Types as word
use Rattle.word_base.specs.Operations.{result_of_type, sum, difference}
use Rattle.c_type_rules.specs.Integers.{integer}
use Rattle.graph_build_names.specs.Conversions.{unsigned_bits}
pub use Rattle.base_laws.proofs.Booleans.{two_true as both_true}

-- a number that 32 bits can say, with a sign or without one
abbrev pub InWord : ℤ → Type 0
InWord (pos n) = n < 4294967296
InWord (negsuc n) = n < 2147483648

-- each number of an integer type is such a number
pub in_word : (t : IntegerType) (z : ℤ) → holds (integer t) z ≡ true → InWord z
in_word Char (pos n) h = let le : n ≤ 255 = leb-true n 255 (both_true (int_le (pos 0) (pos n)) (int_le (pos n) (pos 255)) h).1 in omega arith
in_word Char (negsuc n) h = cc
in_word SignedChar (pos n) h = let le : n ≤ 127 = leb-true n 127 h in omega arith
in_word SignedChar (negsuc n) h = let le : n ≤ 127 = leb-true n 127 (both_true (int_le (negsuc 127) (negsuc n)) true h).0 in omega arith
in_word UnsignedChar (pos n) h = let le : n ≤ 255 = leb-true n 255 (both_true (int_le (pos 0) (pos n)) (int_le (pos n) (pos 255)) h).1 in omega arith
in_word UnsignedChar (negsuc n) h = cc
in_word Short (pos n) h = let le : n ≤ 32767 = leb-true n 32767 h in omega arith
in_word Short (negsuc n) h = let le : n ≤ 32767 = leb-true n 32767 (both_true (int_le (negsuc 32767) (negsuc n)) true h).0 in omega arith
in_word UnsignedShort (pos n) h = let le : n ≤ 65535 = leb-true n 65535 (both_true (int_le (pos 0) (pos n)) (int_le (pos n) (pos 65535)) h).1 in omega arith
in_word UnsignedShort (negsuc n) h = cc
in_word Int (pos n) h = let le : n ≤ 2147483647 = leb-true n 2147483647 h in omega arith
in_word Int (negsuc n) h = let le : n ≤ 2147483647 = leb-true n 2147483647 (both_true (int_le (negsuc 2147483647) (negsuc n)) true h).0 in omega arith
in_word UnsignedInt (pos n) h = let le : n ≤ 4294967295 = leb-true n 4294967295 (both_true (int_le (pos 0) (pos n)) (int_le (pos n) (pos 4294967295)) h).1 in omega arith
in_word UnsignedInt (negsuc n) h = cc
in_word Long (pos n) h = let le : n ≤ 2147483647 = leb-true n 2147483647 h in omega arith
in_word Long (negsuc n) h = let le : n ≤ 2147483647 = leb-true n 2147483647 (both_true (int_le (negsuc 2147483647) (negsuc n)) true h).0 in omega arith
in_word UnsignedLong (pos n) h = let le : n ≤ 4294967295 = leb-true n 4294967295 (both_true (int_le (pos 0) (pos n)) (int_le (pos n) (pos 4294967295)) h).1 in omega arith
in_word UnsignedLong (negsuc n) h = cc

-- a word is below 2^32
pub word_below : (z : ℤ) → unsigned_bits z < 4294967296
word_below (pos n) = omega arith
word_below (negsuc n) = omega arith

-- the sum of words is the word of the sum, and so is their difference
pub word_sum : (a b z : ℤ) → a +ℤ b ≡ z → (unsigned_bits a + unsigned_bits b) % 4294967296 ≡ unsigned_bits z
word_sum (pos i) (pos j) (pos n) e = omega (arith, ints, e)
word_sum (pos i) (pos j) (negsuc n) e = omega (arith, ints, e)
word_sum (pos i) (negsuc j) (pos n) e = omega (arith, ints, e)
word_sum (pos i) (negsuc j) (negsuc n) e = omega (arith, ints, e)
word_sum (negsuc i) (pos j) (pos n) e = omega (arith, ints, e)
word_sum (negsuc i) (pos j) (negsuc n) e = omega (arith, ints, e)
word_sum (negsuc i) (negsuc j) (pos n) e = omega (arith, ints, e)
word_sum (negsuc i) (negsuc j) (negsuc n) e = omega (arith, ints, e)

pub word_difference : (a b z : ℤ) → a -ℤ b ≡ z → (unsigned_bits a + (4294967296 - unsigned_bits b)) % 4294967296 ≡ unsigned_bits z
word_difference (pos i) (pos j) (pos n) e = omega (arith, ints, e)
word_difference (pos i) (pos j) (negsuc n) e = omega (arith, ints, e)
word_difference (pos i) (negsuc j) (pos n) e = omega (arith, ints, e)
word_difference (pos i) (negsuc j) (negsuc n) e = omega (arith, ints, e)
word_difference (negsuc i) (pos j) (pos n) e = omega (arith, ints, e)
word_difference (negsuc i) (pos j) (negsuc n) e = omega (arith, ints, e)
word_difference (negsuc i) (negsuc j) (pos n) e = omega (arith, ints, e)
word_difference (negsuc i) (negsuc j) (negsuc n) e = omega (arith, ints, e)

-- what a number is that is kept in range
pub in_range_is : (t : word.IntegerType) (y z : ℤ) → in_range t y ≡ Some z → (holds t y ≡ true) × (y ≡ z)
in_range_is t y z h = go (holds t y) refl h
  where
    go : (b : Bool) → holds t y ≡ b → (if b then Some y else None) ≡ Some z → (holds t y ≡ true) × (y ≡ z)
    go true e k = (e, cc)
    go false e k = cc

-- a number converted to 32 bits has the same word
pub word_unsigned : (y : ℤ) → unsigned_bits (converted unsigned_type y) ≡ unsigned_bits y
word_unsigned (pos n) = omega arith
word_unsigned (negsuc n) = omega arith

pub kept_word_int : (y z : ℤ) → result_of_type int_type y ≡ Some z → unsigned_bits y ≡ unsigned_bits z
kept_word_int y z h = ap unsigned_bits (in_range_is int_type y z h).1

pub kept_word_unsigned : (y z : ℤ) → result_of_type unsigned_type y ≡ Some z → unsigned_bits y ≡ unsigned_bits z
kept_word_unsigned y z h = let same : converted unsigned_type y ≡ z = cc in sym (word_unsigned y) ∙ ap unsigned_bits same

-- such a number is one that 32 bits can say
pub kept_in_int : (y z : ℤ) → result_of_type int_type y ≡ Some z → InWord z
kept_in_int y z h = let r = in_range_is int_type y z h in in_word Int z (ap (holds int_type) (sym r.1) ∙ r.0)

pub kept_in_unsigned : (y z : ℤ) → result_of_type unsigned_type y ≡ Some z → InWord z
kept_in_unsigned y z h = subst InWord same (below y)
  where
    same : converted unsigned_type y ≡ z
    same = cc

    below : (y : ℤ) → InWord (converted unsigned_type y)
    below (pos n) = omega arith
    below (negsuc n) = omega arith
