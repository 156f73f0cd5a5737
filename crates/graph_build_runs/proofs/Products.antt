-- Products, quotients, remainders, shifts and bits: the machine's operation on words gives the word of what C makes of numbers.
use Rattle.std.proofs.Common.{◌≡◌, ◌≢◌, ℕ, zero, suc, ◌-◌, ◌*◌, ◌/◌, ◌%◌, ◌^◌, ◌<◌, ◌≤◌, Bool, true, false, not, ◌&&◌, Option, Some, None, refl, sym, ap, ◌∙◌, subst, arith, ℤ, pos, negsuc, ◌-ℤ◌, ◌*ℤ◌, bit_and, bit_or, bit_xor}
use Rattle.std.specs.Prelude.{◌==◌, if◌then◌else◌, int_le, int_lt, nat_le, int_div, int_rem, unsigned_abs}
use Rattle.std.specs.Int.{cast_signed, cast_unsigned, int_wrap, w32}
use Rattle.std.proofs.lemmas.Int.{ints, of_z-to_z, to_z-of_z, to_z_pos, wrapping_mul-bits, int_wrap-mul_left, int_wrap-mul_right, rem_below}
use Rattle.std.proofs.lemmas.Nat.{mul-mod_second, or_lt, xor_lt, shr_le, mod_below}
use Rattle.std.proofs.lemmas.Bool.{leb-true}
use Rattle.std.proofs.lemmas.Bool.Decides.{nat_tests}
use Rattle.c_tree.specs.declared.types.IntegerType.{IntegerType}
use Rattle.c_tree.specs.declared.types.IntegerType.TheVariants.{Char, SignedChar, UnsignedChar, Short, UnsignedShort, Int, UnsignedInt, Long, UnsignedLong}
use Rattle.c_tree.specs.declared.typed_expression.Arithmetic.TheVariants as arithmetic-is
use Rattle.word_base.specs.Types.{holds, in_range, unsigned_type, int_type, number_of_bits}
use Rattle.word_base.specs.Operations.{result_of_type, quotient, remainder, is_shift_count, right_shift, on_bits}
use Rattle.word_base.specs.Arithmetic.{divided, divided_unsigned, remaining, remaining_unsigned, shifted_left, shifted_right, shifted_right_signed}
use Rattle.word_base.specs.Words.{signed_number, shifted_down}
use Rattle.word_base.specs.Words as of-words
use Rattle.word_base.specs.WordOperations.{word_operation as operated_words}
use Rattle.c_type_laws.specs.Kinds.{is_promoted}
use Rattle.graph_build_names.specs.Conversions.{unsigned_bits as word_of}
use Rattle.graph_build_runs.proofs.Words.{InWord, in_word, both_true, in_range_is, kept_word_int, kept_word_unsigned, kept_in_int, kept_in_unsigned}
use Rattle.graph_build_runs.proofs.Arithmetic.{Computes}
use Rattle.base_laws.proofs.Numbers.{and_lt}
use Rattle.base_laws.proofs.Options.{if_none, remainder_is}

-- a number modulo 2^32, as the library wraps numbers
wrap_is : (z : ℤ) → int_wrap w32 z ≡ cast_signed w32 (word_of z)
unfolding int_wrap
wrap_is (pos n) = refl
wrap_is (negsuc n) = refl

word_lt : (z : ℤ) → word_of z < 2 ^ 32
word_lt (pos n) = omega arith
word_lt (negsuc n) = omega arith

-- words that wrap alike are one
same_word : (m n : ℕ) → m < 2 ^ 32 → n < 2 ^ 32 → cast_signed w32 m ≡ cast_signed w32 n → m ≡ n
same_word m n hm hn e = sym (of_z-to_z w32 m hm) ∙ ap (cast_unsigned w32) e ∙ of_z-to_z w32 n hn

-- The product of words is the word of the product.
pub word_product : (a b : ℤ) → word_of a * word_of b % 4294967296 ≡ word_of (a *ℤ b)
word_product a b =
    same_word (word_of a * word_of b % 4294967296) (word_of (a *ℤ b)) (mod_below (word_of a * word_of b) 4294967296 (omega arith)) (word_lt (a *ℤ b))
    (wrapping_mul-bits w32 (word_of a) (word_of b) (word_lt a) (word_lt b) ∙ ap (λ z. int_wrap w32 (z *ℤ cast_signed w32 (word_of b))) (sym (wrap_is a)) ∙ ap (λ z. int_wrap w32 (int_wrap w32 a *ℤ z)) (sym (wrap_is b))
    ∙ int_wrap-mul_left w32 a (int_wrap w32 b) ∙ int_wrap-mul_right w32 a b ∙ wrap_is (a *ℤ b))

-- a word times a number is the word of the number's product
pub word_times : (a : ℤ) (b : ℕ) → word_of a * b % 4294967296 ≡ word_of (a *ℤ pos b)
word_times a b = sym (mul-mod_second (word_of a) b 4294967296) ∙ word_product a (pos b)

-- a number with a sign is what its word says
pub signed_word : (z : ℤ) → holds int_type z ≡ true → signed_number (word_of z) ≡ z
signed_word (pos n) h = let le : n ≤ 2147483647 = leb-true n 2147483647 h in let small : n % 4294967296 ≡ n = omega arith in ap (cast_signed w32) small ∙ to_z_pos w32 n (omega (arith, le))
signed_word (negsuc n) h =
    let le : n ≤ 2147483647 = leb-true n 2147483647 (both_true (int_le (negsuc 2147483647) (negsuc n)) true h).0 in
    let small : word_of (negsuc n) ≡ 4294967296 - suc n = omega (arith, le) in
    ap (cast_signed w32) small ∙ to_z-of_z w32 (negsuc n) (record { sfits = omega (arith, le) })

-- the word of a number that 32 bits can say
pub bits_word : (z : ℤ) → InWord z → of-words.word_of z ≡ word_of z
bits_word (pos n) h = let lt : n < 4294967296 = h in omega (arith, lt)
bits_word (negsuc n) h = let lt : n < 2147483648 = h in omega (arith, lt)

-- the word of a number that is not 0
some_word : (z : ℤ) → InWord z → unsigned_abs z == 0 ≡ false → word_of z == 0 ≡ false
some_word (pos zero) w h = cc
some_word (pos (suc n)) w h = let lt : suc n < 4294967296 = w in let some : word_of (pos (suc n)) ≢ 0 = λ e. absurd (omega (arith, lt, e)) in grind (arith, nat_tests, some)
some_word (negsuc n) w h = let lt : n < 2147483648 = w in let some : word_of (negsuc n) ≢ 0 = λ e. absurd (omega (arith, lt, e)) in grind (arith, nat_tests, some)

pub multiply_computes : (t : IntegerType) → is_promoted t ≡ true → Computes arithmetic-is.Multiply t
unfolding operated_words
multiply_computes Char p a b z ha hb h = cc
multiply_computes SignedChar p a b z ha hb h = cc
multiply_computes UnsignedChar p a b z ha hb h = cc
multiply_computes Short p a b z ha hb h = cc
multiply_computes UnsignedShort p a b z ha hb h = cc
multiply_computes Int p a b z ha hb h = (word_product a b ∙ kept_word_int (a *ℤ b) z h, kept_in_int (a *ℤ b) z h)
multiply_computes UnsignedInt p a b z ha hb h = (word_product a b ∙ kept_word_unsigned (a *ℤ b) z h, kept_in_unsigned (a *ℤ b) z h)
multiply_computes Long p a b z ha hb h = (word_product a b ∙ kept_word_int (a *ℤ b) z h, kept_in_int (a *ℤ b) z h)
multiply_computes UnsignedLong p a b z ha hb h = (word_product a b ∙ kept_word_unsigned (a *ℤ b) z h, kept_in_unsigned (a *ℤ b) z h)

-- a quotient that there is has a divisor
divisor : (b : ℤ) (r : Option ℤ) (z : ℤ) → (if unsigned_abs b == 0 then None else r) ≡ Some z → (unsigned_abs b == 0 ≡ false) × (r ≡ Some z)
divisor b r z h = go (unsigned_abs b == 0) refl h
  where
    go : (c : Bool) → unsigned_abs b == 0 ≡ c → (if c then None else r) ≡ Some z → (unsigned_abs b == 0 ≡ false) × (r ≡ Some z)
    go true e k = cc
    go false e k = (e, k)

signed_quotient : (a b z : ℤ) → holds int_type a ≡ true → holds int_type b ≡ true → quotient int_type a b ≡ Some z → (divided (word_of a) (word_of b) ≡ word_of z) × InWord z
signed_quotient a b z ha hb h =
    let d = divisor b (in_range int_type (int_div a b)) z h in
    let r = in_range_is int_type (int_div a b) z d.1 in
    let within : InWord z = in_word Int z (ap (holds int_type) (sym r.1) ∙ r.0) in (
      ap (λ c. if c then 4294967295 else of-words.word_of (int_div (signed_number (word_of a)) (signed_number (word_of b)))) (some_word b (in_word Int b hb) d.0)
          ∙ ap (λ k. of-words.word_of (int_div k (signed_number (word_of b)))) (signed_word a ha) ∙ ap (λ k. of-words.word_of (int_div a k)) (signed_word b hb) ∙ ap of-words.word_of r.1 ∙ bits_word z within,
      within,
    )

unsigned_quotient : (a b z : ℤ) → holds unsigned_type a ≡ true → holds unsigned_type b ≡ true → quotient unsigned_type a b ≡ Some z → (divided_unsigned (word_of a) (word_of b) ≡ word_of z) × InWord z
unsigned_quotient (negsuc m) b z ha hb h = cc
unsigned_quotient (pos m) (negsuc n) z ha hb h = cc
unsigned_quotient (pos m) (pos n) z ha hb h =
    let d = divisor (pos n) (in_range unsigned_type (int_div (pos m) (pos n))) z h in
    let r = in_range_is unsigned_type (int_div (pos m) (pos n)) z d.1 in
    let within : InWord z = in_word UnsignedInt z (ap (holds unsigned_type) (sym r.1) ∙ r.0) in
    let hm : m < 4294967296 = in_word UnsignedInt (pos m) ha in
    let hn : n < 4294967296 = in_word UnsignedInt (pos n) hb in
    let same_m : m % 4294967296 ≡ m = omega (arith, hm) in
    let same_n : n % 4294967296 ≡ n = omega (arith, hn) in (
      ap (λ c. if c then 4294967295 else m % 4294967296 / (n % 4294967296)) (some_word (pos n) hn d.0) ∙ ap (λ k. k / (n % 4294967296)) same_m ∙ ap (λ k. m / k) same_n ∙ ap of-words.word_of r.1 ∙ bits_word z within,
      within,
    )

pub divide_computes : (t : IntegerType) → is_promoted t ≡ true → Computes arithmetic-is.Divide t
unfolding operated_words
divide_computes Char p a b z ha hb h = cc
divide_computes SignedChar p a b z ha hb h = cc
divide_computes UnsignedChar p a b z ha hb h = cc
divide_computes Short p a b z ha hb h = cc
divide_computes UnsignedShort p a b z ha hb h = cc
divide_computes Int p a b z ha hb h = signed_quotient a b z ha hb h
divide_computes UnsignedInt p a b z ha hb h = unsigned_quotient a b z ha hb h
divide_computes Long p a b z ha hb h = signed_quotient a b z ha hb h
divide_computes UnsignedLong p a b z ha hb h = unsigned_quotient a b z ha hb h

-- a number no farther from 0 than a number with a sign
near_word : (r b : ℤ) → holds int_type b ≡ true → unsigned_abs r < unsigned_abs b → InWord r
near_word (pos n) (pos m) h lt = let le : m ≤ 2147483647 = leb-true m 2147483647 h in let k : n < m = lt in omega (arith, k, le)
near_word (pos n) (negsuc m) h lt = let le : m ≤ 2147483647 = leb-true m 2147483647 (both_true (int_le (negsuc 2147483647) (negsuc m)) true h).0 in let k : n < suc m = lt in omega (arith, k, le)
near_word (negsuc n) (pos m) h lt = let le : m ≤ 2147483647 = leb-true m 2147483647 h in let k : suc n < m = lt in omega (arith, k, le)
near_word (negsuc n) (negsuc m) h lt = let le : m ≤ 2147483647 = leb-true m 2147483647 (both_true (int_le (negsuc 2147483647) (negsuc m)) true h).0 in let k : suc n < suc m = lt in omega (arith, k, le)

positive : (n : ℕ) → n == 0 ≡ false → 0 < n
positive n h = grind (arith, nat_tests, h)

signed_remainder : (a b z : ℤ) → holds int_type a ≡ true → holds int_type b ≡ true → remainder int_type a b ≡ Some z → (remaining (word_of a) (word_of b) ≡ word_of z) × InWord z
signed_remainder a b z ha hb h =
    let d = divisor b (if holds int_type (int_div a b) then Some (int_rem a b) else None) z h in
    let r = remainder_is (holds int_type (int_div a b)) (int_rem a b) z d.1 in
    let within : InWord z = subst InWord r (near_word (int_rem a b) b hb (rem_below a b (positive (unsigned_abs b) d.0))) in (
      ap (λ c. if c then word_of a else of-words.word_of (int_rem (signed_number (word_of a)) (signed_number (word_of b)))) (some_word b (in_word Int b hb) d.0)
          ∙ ap (λ k. of-words.word_of (int_rem k (signed_number (word_of b)))) (signed_word a ha) ∙ ap (λ k. of-words.word_of (int_rem a k)) (signed_word b hb) ∙ ap of-words.word_of r ∙ bits_word z within,
      within,
    )

unsigned_remainder : (a b z : ℤ) → holds unsigned_type a ≡ true → holds unsigned_type b ≡ true → remainder unsigned_type a b ≡ Some z → (remaining_unsigned (word_of a) (word_of b) ≡ word_of z) × InWord z
unsigned_remainder (negsuc m) b z ha hb h = cc
unsigned_remainder (pos m) (negsuc n) z ha hb h = cc
unsigned_remainder (pos m) (pos n) z ha hb h =
    let d = divisor (pos n) (if holds unsigned_type (int_div (pos m) (pos n)) then Some (int_rem (pos m) (pos n)) else None) z h in
    let r = remainder_is (holds unsigned_type (int_div (pos m) (pos n))) (int_rem (pos m) (pos n)) z d.1 in
    let hm : m < 4294967296 = in_word UnsignedInt (pos m) ha in
    let hn : n < 4294967296 = in_word UnsignedInt (pos n) hb in
    let some : 0 < n = positive n d.0 in
    let below : m % n < n = mod_below m n some in
    let within : InWord (pos (m % n)) = omega (arith, below, hn) in
    let same_m : m % 4294967296 ≡ m = omega (arith, hm) in
    let same_n : n % 4294967296 ≡ n = omega (arith, hn) in (
      ap (λ c. if c then m % 4294967296 else m % 4294967296 % (n % 4294967296)) (some_word (pos n) hn d.0) ∙ ap (λ k. k % (n % 4294967296)) same_m ∙ ap (λ k. m % k) same_n ∙ bits_word (pos (m % n)) within ∙ ap word_of r,
      subst InWord r within,
    )

pub remainder_computes : (t : IntegerType) → is_promoted t ≡ true → Computes arithmetic-is.Remainder t
unfolding operated_words
remainder_computes Char p a b z ha hb h = cc
remainder_computes SignedChar p a b z ha hb h = cc
remainder_computes UnsignedChar p a b z ha hb h = cc
remainder_computes Short p a b z ha hb h = cc
remainder_computes UnsignedShort p a b z ha hb h = cc
remainder_computes Int p a b z ha hb h = signed_remainder a b z ha hb h
remainder_computes UnsignedInt p a b z ha hb h = unsigned_remainder a b z ha hb h
remainder_computes Long p a b z ha hb h = signed_remainder a b z ha hb h
remainder_computes UnsignedLong p a b z ha hb h = unsigned_remainder a b z ha hb h

-- a shift's count that is one
pub record CountIs (n : ℤ) : Type 0 where
  pub count : ℕ
  pub is : n ≡ pos count
  pub below : count < 32

count_is : (n : ℤ) → int_le (pos 0) n && int_lt n (pos 32) ≡ true → CountIs n
count_is (pos k) h = let lt = (both_true (int_le (pos 0) (pos k)) (int_lt (pos k) (pos 32)) h).1 in record { count = k; is = refl; below = grind (arith, nat_tests, lt) }
count_is (negsuc k) h = cc

-- the count in the machine is the same
count_bits : (k : ℕ) → k < 32 → k % 4294967296 % 32 ≡ k
count_bits k lt = omega (arith, lt)

if_some : (c : Bool) (r : Option ℤ) (z : ℤ) → (if not c then None else r) ≡ Some z → (c ≡ true) × (r ≡ Some z)
if_some true r z h = (refl, h)
if_some false r z h = cc

if_first : (c : Bool) (y z : ℤ) → (if c then Some y else None) ≡ Some z → (c ≡ true) × (y ≡ z)
if_first true y z h = (refl, cc)
if_first false y z h = cc

-- a word shifted to the left
shifted_word : (a n : ℤ) (c : CountIs n) → shifted_left (word_of a) (word_of n) ≡ word_of (a *ℤ pos (2 ^ unsigned_abs n))
shifted_word a n c =
    ap (λ k. shifted_left (word_of a) (word_of k)) c.is ∙ ap (λ k. word_of a * 2 ^ k % 4294967296) (count_bits c.count c.below) ∙ word_times a (2 ^ c.count) ∙ ap (λ k. word_of (a *ℤ pos (2 ^ unsigned_abs k))) (sym c.is)

pub left_computes : (t : IntegerType) → is_promoted t ≡ true → Computes arithmetic-is.ShiftLeft t
unfolding operated_words
left_computes Char p a b z ha hb h = cc
left_computes SignedChar p a b z ha hb h = cc
left_computes UnsignedChar p a b z ha hb h = cc
left_computes Short p a b z ha hb h = cc
left_computes UnsignedShort p a b z ha hb h = cc
left_computes Int p a b z ha hb h =
    let c = if_some (is_shift_count int_type b) (if int_lt a (pos 0) then None else result_of_type int_type (a *ℤ pos (2 ^ unsigned_abs b))) z h in
    let k = if_none (int_lt a (pos 0)) (result_of_type int_type (a *ℤ pos (2 ^ unsigned_abs b))) z c.1 in
    (shifted_word a b (count_is b c.0) ∙ kept_word_int (a *ℤ pos (2 ^ unsigned_abs b)) z k, kept_in_int (a *ℤ pos (2 ^ unsigned_abs b)) z k)
left_computes Long p a b z ha hb h =
    let c = if_some (is_shift_count int_type b) (if int_lt a (pos 0) then None else result_of_type int_type (a *ℤ pos (2 ^ unsigned_abs b))) z h in
    let k = if_none (int_lt a (pos 0)) (result_of_type int_type (a *ℤ pos (2 ^ unsigned_abs b))) z c.1 in
    (shifted_word a b (count_is b c.0) ∙ kept_word_int (a *ℤ pos (2 ^ unsigned_abs b)) z k, kept_in_int (a *ℤ pos (2 ^ unsigned_abs b)) z k)
left_computes UnsignedInt p a b z ha hb h =
    let c = if_some (is_shift_count unsigned_type b) (result_of_type unsigned_type (a *ℤ pos (2 ^ unsigned_abs b))) z h in
    (shifted_word a b (count_is b c.0) ∙ kept_word_unsigned (a *ℤ pos (2 ^ unsigned_abs b)) z c.1, kept_in_unsigned (a *ℤ pos (2 ^ unsigned_abs b)) z c.1)
left_computes UnsignedLong p a b z ha hb h =
    let c = if_some (is_shift_count unsigned_type b) (result_of_type unsigned_type (a *ℤ pos (2 ^ unsigned_abs b))) z h in
    (shifted_word a b (count_is b c.0) ∙ kept_word_unsigned (a *ℤ pos (2 ^ unsigned_abs b)) z c.1, kept_in_unsigned (a *ℤ pos (2 ^ unsigned_abs b)) z c.1)

shifted_in : (a : ℤ) (k : ℕ) → InWord a → InWord (shifted_down a k)
shifted_in (pos m) k h = let lt : m < 4294967296 = h in let le = shr_le m k in omega (arith, lt, le)
shifted_in (negsuc m) k h = let lt : m < 2147483648 = h in let le = shr_le m k in omega (arith, lt, le)

signed_shift : (a n z : ℤ) → holds int_type a ≡ true → right_shift int_type a n ≡ Some z → (shifted_right_signed (word_of a) (word_of n) ≡ word_of z) × InWord z
signed_shift a n z ha h =
    let d = if_first (is_shift_count int_type n) (shifted_down a (unsigned_abs n)) z h in
    let c = count_is n d.0 in
    let within = shifted_in a c.count (in_word Int a ha) in
    let is : shifted_down a c.count ≡ z = ap (λ k. shifted_down a (unsigned_abs k)) (sym c.is) ∙ d.1 in (
      ap (λ k. shifted_right_signed (word_of a) (word_of k)) c.is ∙ ap (λ k. of-words.word_of (shifted_down (signed_number (word_of a)) k)) (count_bits c.count c.below) ∙ ap (λ k. of-words.word_of (shifted_down k c.count)) (signed_word a ha)
          ∙ bits_word (shifted_down a c.count) within ∙ ap word_of is,
      subst InWord is within,
    )

unsigned_shift : (a n z : ℤ) → holds unsigned_type a ≡ true → right_shift unsigned_type a n ≡ Some z → (shifted_right (word_of a) (word_of n) ≡ word_of z) × InWord z
unsigned_shift (negsuc m) n z ha h = cc
unsigned_shift (pos m) n z ha h =
    let d = if_first (is_shift_count unsigned_type n) (shifted_down (pos m) (unsigned_abs n)) z h in
    let c = count_is n d.0 in
    let hm : m < 4294967296 = in_word UnsignedInt (pos m) ha in
    let within = shifted_in (pos m) c.count hm in
    let same_m : m % 4294967296 ≡ m = omega (arith, hm) in
    let is : shifted_down (pos m) c.count ≡ z = ap (λ k. shifted_down (pos m) (unsigned_abs k)) (sym c.is) ∙ d.1 in (
      ap (λ k. shifted_right (m % 4294967296) (word_of k)) c.is ∙ ap (λ k. m % 4294967296 / 2 ^ k) (count_bits c.count c.below) ∙ ap (λ k. k / 2 ^ c.count) same_m ∙ bits_word (shifted_down (pos m) c.count) within ∙ ap word_of is,
      subst InWord is within,
    )

pub right_computes : (t : IntegerType) → is_promoted t ≡ true → Computes arithmetic-is.ShiftRight t
unfolding operated_words
right_computes Char p a b z ha hb h = cc
right_computes SignedChar p a b z ha hb h = cc
right_computes UnsignedChar p a b z ha hb h = cc
right_computes Short p a b z ha hb h = cc
right_computes UnsignedShort p a b z ha hb h = cc
right_computes Int p a b z ha hb h = signed_shift a b z ha h
right_computes UnsignedInt p a b z ha hb h = unsigned_shift a b z ha h
right_computes Long p a b z ha hb h = signed_shift a b z ha h
right_computes UnsignedLong p a b z ha hb h = unsigned_shift a b z ha h

-- the number of a type that has some bits, and its word
int_bits : (k : ℕ) → k < 4294967296 → (word_of (number_of_bits int_type k) ≡ k) × InWord (number_of_bits int_type k)
int_bits k lt = go (nat_le 2147483648 k) refl
  where
    high : 2147483648 ≤ k → (y : ℤ) → pos k -ℤ pos 4294967296 ≡ y → (word_of y ≡ k) × InWord y
    high le (pos n) e = absurd (omega (arith, ints, le, lt, e))
    high le (negsuc n) e = (omega (arith, ints, le, lt, e), omega (arith, ints, le, lt, e))

    go : (b : Bool) → nat_le 2147483648 k ≡ b → (word_of (if b then pos k -ℤ pos 4294967296 else pos k) ≡ k) × InWord (if b then pos k -ℤ pos 4294967296 else pos k)
    go true e = high (leb-true 2147483648 k e) (pos k -ℤ pos 4294967296) refl
    go false e = (omega (arith, lt), lt)

unsigned_bits : (k : ℕ) → k < 4294967296 → (word_of (number_of_bits unsigned_type k) ≡ k) × InWord (number_of_bits unsigned_type k)
unsigned_bits k lt = (omega (arith, lt), lt)

-- an operation on the bits of numbers of a type of 32 bits
int_on_bits : (f : ℕ → ℕ → ℕ) (below : (m n : ℕ) → m < 2 ^ 32 → n < 2 ^ 32 → f m n < 2 ^ 32) (a b z : ℤ) → Some (on_bits int_type f a b) ≡ Some z → (f (word_of a) (word_of b) ≡ word_of z) × InWord z
int_on_bits f below a b z h =
    let same : on_bits int_type f a b ≡ z = cc in
    let c = int_bits (f (word_of a) (word_of b)) (below (word_of a) (word_of b) (word_lt a) (word_lt b)) in
    (sym c.0 ∙ ap word_of same, subst InWord same c.1)

unsigned_on_bits : (f : ℕ → ℕ → ℕ) (below : (m n : ℕ) → m < 2 ^ 32 → n < 2 ^ 32 → f m n < 2 ^ 32) (a b z : ℤ) → Some (on_bits unsigned_type f a b) ≡ Some z → (f (word_of a) (word_of b) ≡ word_of z) × InWord z
unsigned_on_bits f below a b z h =
    let same : on_bits unsigned_type f a b ≡ z = cc in
    let c = unsigned_bits (f (word_of a) (word_of b)) (below (word_of a) (word_of b) (word_lt a) (word_lt b)) in
    (sym c.0 ∙ ap word_of same, subst InWord same c.1)

pub and_computes : (t : IntegerType) → is_promoted t ≡ true → Computes arithmetic-is.BitAnd t
unfolding operated_words
and_computes Char p a b z ha hb h = cc
and_computes SignedChar p a b z ha hb h = cc
and_computes UnsignedChar p a b z ha hb h = cc
and_computes Short p a b z ha hb h = cc
and_computes UnsignedShort p a b z ha hb h = cc
and_computes Int p a b z ha hb h = int_on_bits bit_and and_lt a b z h
and_computes UnsignedInt p a b z ha hb h = unsigned_on_bits bit_and and_lt a b z h
and_computes Long p a b z ha hb h = int_on_bits bit_and and_lt a b z h
and_computes UnsignedLong p a b z ha hb h = unsigned_on_bits bit_and and_lt a b z h

pub or_computes : (t : IntegerType) → is_promoted t ≡ true → Computes arithmetic-is.BitOr t
unfolding operated_words
or_computes Char p a b z ha hb h = cc
or_computes SignedChar p a b z ha hb h = cc
or_computes UnsignedChar p a b z ha hb h = cc
or_computes Short p a b z ha hb h = cc
or_computes UnsignedShort p a b z ha hb h = cc
or_computes Int p a b z ha hb h = int_on_bits bit_or (or_lt 32) a b z h
or_computes UnsignedInt p a b z ha hb h = unsigned_on_bits bit_or (or_lt 32) a b z h
or_computes Long p a b z ha hb h = int_on_bits bit_or (or_lt 32) a b z h
or_computes UnsignedLong p a b z ha hb h = unsigned_on_bits bit_or (or_lt 32) a b z h

pub xor_computes : (t : IntegerType) → is_promoted t ≡ true → Computes arithmetic-is.BitXor t
unfolding operated_words
xor_computes Char p a b z ha hb h = cc
xor_computes SignedChar p a b z ha hb h = cc
xor_computes UnsignedChar p a b z ha hb h = cc
xor_computes Short p a b z ha hb h = cc
xor_computes UnsignedShort p a b z ha hb h = cc
xor_computes Int p a b z ha hb h = int_on_bits bit_xor (xor_lt 32) a b z h
xor_computes UnsignedInt p a b z ha hb h = unsigned_on_bits bit_xor (xor_lt 32) a b z h
xor_computes Long p a b z ha hb h = int_on_bits bit_xor (xor_lt 32) a b z h
xor_computes UnsignedLong p a b z ha hb h = unsigned_on_bits bit_xor (xor_lt 32) a b z h
