-- Comparisons of numbers by their words.
use Rattle.std.proofs.Common.{◌≡◌, ◌≢◌, ℕ, zero, suc, ◌+◌, ◌-◌, ◌%◌, ◌<◌, ◌≤◌, ◌⊎◌, inl, inr, Bool, true, false, not, ◌&&◌, Option, Some, None, refl, sym, ap, ◌∙◌, subst, arith, ℤ, pos, negsuc}
use Rattle.std.specs.Prelude.{◌==◌, if◌then◌else◌, int_le, int_lt, nat_lt, option_map}
use Rattle.std.specs.Int.{cast_signed, cast_unsigned, w32}
use Rattle.std.specs.Int.RustNames.{FitsSigned}
use Rattle.std.proofs.lemmas.Bool.{leb-true}
use Rattle.std.proofs.lemmas.Bool.Decides.{nat_tests}
use Rattle.std.proofs.lemmas.Int.{ints}
use Rattle.word_base.specs.Types.{holds}
use Rattle.word_base.specs.Words.{signed_number, word_of_test}
use Rattle.word_base.specs.WordOperations.{word_operation}
use Rattle.c_tree.specs.declared.types.IntegerType.{IntegerType}
use Rattle.c_tree.specs.declared.types.IntegerType.TheVariants.{Char, SignedChar, UnsignedChar, Short, UnsignedShort, Int, UnsignedInt, Long, UnsignedLong}
use Rattle.c_type_rules.specs.Integers.{integer}
use Rattle.c_type_rules.specs.Constants.{same}
use Rattle.c_type_laws.specs.Kinds.{is_promoted}
use Rattle.graph_build_names.specs.Conversions.{unsigned_bits}
use Rattle.graph_build_steps.specs.Rules.{less_by}
use Rattle.graph_build_runs.proofs.Words.{both_true}

-- a number that a signed word says
abbrev pub InInt : ℤ → Type 0
InInt (pos n) = n < 2147483648
InInt (negsuc n) = n < 2147483648

-- a number that an unsigned word says
abbrev pub InUnsigned : ℤ → Type 0
InUnsigned (pos n) = n < 4294967296
InUnsigned (negsuc n) = ⊥

pub in_int : (z : ℤ) → holds (integer Int) z ≡ true → InInt z
in_int (pos n) h = let le : n ≤ 2147483647 = leb-true n 2147483647 h in omega arith
in_int (negsuc n) h = let le : n ≤ 2147483647 = leb-true n 2147483647 (both_true (int_le (negsuc 2147483647) (negsuc n)) true h).0 in omega arith

pub in_unsigned : (z : ℤ) → holds (integer UnsignedInt) z ≡ true → InUnsigned z
in_unsigned (pos n) h = let le : n ≤ 4294967295 = leb-true n 4294967295 (both_true (int_le (pos 0) (pos n)) (int_le (pos n) (pos 4294967295)) h).1 in omega arith
in_unsigned (negsuc n) h = cc

-- such a number fits a signed word
int_fits : (z : ℤ) → InInt z → FitsSigned w32 z
int_fits (pos n) h = record { sfits = h }
int_fits (negsuc n) h = record { sfits = h }

-- its word is what a cast gives
word_cast : (z : ℤ) → InInt z → unsigned_bits z ≡ cast_unsigned w32 z
word_cast (pos n) h = let lt : n < 2147483648 = h in let f = int_fits (pos n) h in omega (arith, ints)
word_cast (negsuc n) h = let lt : n < 2147483648 = h in let f = int_fits (negsuc n) h in omega (arith, ints)

cast_back : (z : ℤ) → InInt z → cast_signed w32 (cast_unsigned w32 z) ≡ z
cast_back z h = let f = int_fits z h in omega (arith, ints)

-- the word of such a number says it
pub signed_word : (z : ℤ) → InInt z → signed_number (unsigned_bits z) ≡ z
signed_word z h = ap (cast_signed w32) (word_cast z h) ∙ cast_back z h

pub less_int : (a b : ℤ) → InInt a → InInt b → word_of_test (int_lt (signed_number (unsigned_bits a)) (signed_number (unsigned_bits b))) ≡ word_of_test (int_lt a b)
less_int a b ha hb = ap (λ z. word_of_test (int_lt z (signed_number (unsigned_bits b)))) (signed_word a ha) ∙ ap (λ z. word_of_test (int_lt a z)) (signed_word b hb)

pub less_unsigned : (a b : ℤ) → InUnsigned a → InUnsigned b → nat_lt (unsigned_bits a) (unsigned_bits b) ≡ int_lt a b
less_unsigned (pos n) (pos m) ha hb =
    let la : n < 4294967296 = ha in let lb : m < 4294967296 = hb in
    let ea : n % 4294967296 ≡ n = omega arith in let eb : m % 4294967296 ≡ m = omega arith in
    ap (λ k. nat_lt k (m % 4294967296)) ea ∙ ap (nat_lt n) eb
less_unsigned (pos n) (negsuc m) ha hb = absurd hb
less_unsigned (negsuc n) b ha hb = absurd ha

-- A comparison of words by order is that of the numbers.
pub less_computes : (t : IntegerType) → is_promoted t ≡ true → (a b : ℤ) → holds (integer t) a ≡ true → holds (integer t) b ≡ true → word_operation (less_by (integer t).is_signed) (unsigned_bits a) (unsigned_bits b) ≡ word_of_test (int_lt a b)
unfolding word_operation
less_computes Char p a b ha hb = cc
less_computes SignedChar p a b ha hb = cc
less_computes UnsignedChar p a b ha hb = cc
less_computes Short p a b ha hb = cc
less_computes UnsignedShort p a b ha hb = cc
less_computes Int p a b ha hb = less_int a b (in_int a ha) (in_int b hb)
less_computes UnsignedInt p a b ha hb = ap word_of_test (less_unsigned a b (in_unsigned a ha) (in_unsigned b hb))
less_computes Long p a b ha hb = less_int a b (in_int a ha) (in_int b hb)
less_computes UnsignedLong p a b ha hb = ap word_of_test (less_unsigned a b (in_unsigned a ha) (in_unsigned b hb))

-- two numbers are one where both are no less than the other
pub same_number_is : (a b : ℤ) → same a b ≡ true → a ≡ b
same_number_is (pos n) (pos m) h = let c = both_true (int_le (pos n) (pos m)) (int_le (pos m) (pos n)) h in let x : n ≤ m = leb-true n m c.0 in let y : m ≤ n = leb-true m n c.1 in ap pos (omega arith)
same_number_is (pos n) (negsuc m) h = cc
same_number_is (negsuc n) (pos m) h = cc
same_number_is (negsuc n) (negsuc m) h = let c = both_true (int_le (negsuc n) (negsuc m)) (int_le (negsuc m) (negsuc n)) h in let x : m ≤ n = leb-true m n c.0 in let y : n ≤ m = leb-true n m c.1 in ap negsuc (omega arith)

pub at_most_is : (a b : ℤ) → not (int_lt b a) ≡ int_le a b
at_most_is (pos n) (pos m) = grind (arith, nat_tests)
at_most_is (pos n) (negsuc m) = refl
at_most_is (negsuc n) (pos m) = refl
at_most_is (negsuc n) (negsuc m) = grind (arith, nat_tests)

unsigned_one : (a b : ℤ) → InUnsigned a → InUnsigned b → unsigned_bits a ≡ unsigned_bits b → a ≡ b
unsigned_one (pos n) (pos m) ha hb e = let la : n < 4294967296 = ha in let lb : m < 4294967296 = hb in ap pos (omega (arith, e))
unsigned_one (pos n) (negsuc m) ha hb e = absurd hb
unsigned_one (negsuc n) b ha hb e = absurd ha

-- words of numbers of a type are one where the numbers are
pub words_one : (t : IntegerType) → is_promoted t ≡ true → (a b : ℤ) → holds (integer t) a ≡ true → holds (integer t) b ≡ true → unsigned_bits a ≡ unsigned_bits b → a ≡ b
words_one Char p a b ha hb e = cc
words_one SignedChar p a b ha hb e = cc
words_one UnsignedChar p a b ha hb e = cc
words_one Short p a b ha hb e = cc
words_one UnsignedShort p a b ha hb e = cc
words_one Int p a b ha hb e = sym (signed_word a (in_int a ha)) ∙ ap signed_number e ∙ signed_word b (in_int b hb)
words_one UnsignedInt p a b ha hb e = unsigned_one a b (in_unsigned a ha) (in_unsigned b hb) e
words_one Long p a b ha hb e = sym (signed_word a (in_int a ha)) ∙ ap signed_number e ∙ signed_word b (in_int b hb)
words_one UnsignedLong p a b ha hb e = unsigned_one a b (in_unsigned a ha) (in_unsigned b hb) e

same_one : (a : ℤ) → same a a ≡ true
same_one (pos n) = grind (arith, nat_tests)
same_one (negsuc n) = grind (arith, nat_tests)

pub equal_computes : (t : IntegerType) → is_promoted t ≡ true → (a b : ℤ) → holds (integer t) a ≡ true → holds (integer t) b ≡ true → (unsigned_bits a == unsigned_bits b) ≡ same a b
equal_computes t p a b ha hb = go (same a b) refl
  where
    go : (c : Bool) → same a b ≡ c → (unsigned_bits a == unsigned_bits b) ≡ c
    go true e = let one : unsigned_bits a ≡ unsigned_bits b = ap unsigned_bits (same_number_is a b e) in grind (arith, nat_tests, one)
    go false e = let ne : unsigned_bits a ≢ unsigned_bits b = λ one. true_not_false (sym (same_one a) ∙ ap (same a) (words_one t p a b ha hb one) ∙ e) in grind (arith, nat_tests, ne)
      where
        true_not_false : true ≡ false → ⊥
        true_not_false h = cc
