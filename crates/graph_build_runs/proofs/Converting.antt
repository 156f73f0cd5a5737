-- Conversions of numbers and their words.
use Rattle.std.proofs.Common.{◌≡◌, ◌≢◌, ℕ, zero, suc, ◌+◌, ◌-◌, ◌*◌, ◌/◌, ◌%◌, ◌<◌, ◌≤◌, Bool, true, false, not, ◌&&◌, ◌||◌, Option, Some, None, refl, sym, ap, ◌∙◌, subst, arith, ℤ, pos, negsuc, ◌-ℤ◌}
use Rattle.std.specs.Prelude.{◌==◌, if◌then◌else◌, int_le, nat_le, nat_lt, ◌^◌}
use Rattle.std.proofs.lemmas.Bool.{leb-true, eqb-true}
use Rattle.std.proofs.lemmas.Bool.Decides.{nat_tests}
use Rattle.std.proofs.lemmas.Int.{ints}
use Rattle.word_base.specs.Types.{holds, least_number, greatest, converted, number_of_bits, bits_of, modulo, int_type, unsigned_type, short_type, signed_char_type}
use Rattle.word_base.specs.WordOperations.{truncated, sign_extended}
use Rattle.c_tree.specs.declared.types.IntegerType.{IntegerType}
use Rattle.c_tree.specs.declared.types.IntegerType.TheVariants.{Char, SignedChar, UnsignedChar, Short, UnsignedShort, Int, UnsignedInt, Long, UnsignedLong}
use Rattle.c_type_rules.specs.Integers.{integer, wrapped}
use Rattle.graph_build_names.specs.Conversions.{unsigned_bits, is_narrow, is_within, keeps_bits}
use Rattle.graph_build_steps.specs.Rules.{truncation_to}
use Rattle.graph_build_runs.proofs.Words.{both_true, word_unsigned}

int_le_trans : (a b c : ℤ) → int_le a b ≡ true → int_le b c ≡ true → int_le a c ≡ true
int_le_trans (pos a) (pos b) (pos c) h k = let x : a ≤ b = leb-true a b h in let y : b ≤ c = leb-true b c k in grind (arith, nat_tests, x, y)
int_le_trans (pos a) (pos b) (negsuc c) h k = cc
int_le_trans (pos a) (negsuc b) c h k = cc
int_le_trans (negsuc a) b (pos c) h k = refl
int_le_trans (negsuc a) (pos b) (negsuc c) h k = cc
int_le_trans (negsuc a) (negsuc b) (negsuc c) h k = let x : b ≤ a = leb-true b a h in let y : c ≤ b = leb-true c b k in grind (arith, nat_tests, x, y)

-- a number of a type is one of a type that has all its numbers
within_holds : (t u : IntegerType) (z : ℤ) → is_within t u ≡ true → holds (integer t) z ≡ true → holds (integer u) z ≡ true
within_holds t u z w h =
    let a = both_true (int_le (least_number (integer u)) (least_number (integer t))) (int_le (greatest (integer t)) (greatest (integer u))) w in
    let b = both_true (int_le (least_number (integer t)) z) (int_le z (greatest (integer t))) h in
    both (int_le (least_number (integer u)) z) (int_le z (greatest (integer u))) (int_le_trans (least_number (integer u)) (least_number (integer t)) z a.0 b.0) (int_le_trans z (greatest (integer t)) (greatest (integer u)) b.1 a.1)
  where
    both : (a b : Bool) → a ≡ true → b ≡ true → a && b ≡ true
    both true b ha hb = hb
    both false b ha hb = cc

-- a narrow type's number is what it is converted to
kept_number : (u : IntegerType) (z : ℤ) → is_narrow u ≡ true → holds (integer u) z ≡ true → wrapped u z ≡ z
kept_number Char (pos n) w h = let le : n ≤ 255 = leb-true n 255 (both_true (int_le (pos 0) (pos n)) (int_le (pos n) (pos 255)) h).1 in ap pos (omega arith)
kept_number Char (negsuc n) w h = cc
kept_number UnsignedChar (pos n) w h = let le : n ≤ 255 = leb-true n 255 (both_true (int_le (pos 0) (pos n)) (int_le (pos n) (pos 255)) h).1 in ap pos (omega arith)
kept_number UnsignedChar (negsuc n) w h = cc
kept_number UnsignedShort (pos n) w h = let le : n ≤ 65535 = leb-true n 65535 (both_true (int_le (pos 0) (pos n)) (int_le (pos n) (pos 65535)) h).1 in ap pos (omega arith)
kept_number UnsignedShort (negsuc n) w h = cc
kept_number SignedChar (pos n) w h =
    let le : n ≤ 127 = leb-true n 127 h in
    let low : n % 256 < 128 = omega arith in
    let e : nat_le 128 (n % 256) ≡ false = grind (arith, nat_tests, low) in
    let is : n % 256 ≡ n = omega arith in
    ap (λ b. if b then pos (n % 256) -ℤ pos 256 else pos (n % 256)) e ∙ ap pos is
kept_number SignedChar (negsuc n) w h =
    let le : n ≤ 127 = leb-true n 127 (both_true (int_le (negsuc 127) (negsuc n)) true h).0 in
    let high : 128 ≤ 256 - 1 - n % 256 = omega arith in
    let e : nat_le 128 (256 - 1 - n % 256) ≡ true = grind (arith, nat_tests, high) in
    let is : pos (256 - 1 - n % 256) -ℤ pos 256 ≡ negsuc n = omega (arith, ints) in
    ap (λ b. if b then pos (256 - 1 - n % 256) -ℤ pos 256 else pos (256 - 1 - n % 256)) e ∙ is
kept_number Short (pos n) w h =
    let le : n ≤ 32767 = leb-true n 32767 h in
    let low : n % 65536 < 32768 = omega arith in
    let e : nat_le 32768 (n % 65536) ≡ false = grind (arith, nat_tests, low) in
    let is : n % 65536 ≡ n = omega arith in
    ap (λ b. if b then pos (n % 65536) -ℤ pos 65536 else pos (n % 65536)) e ∙ ap pos is
kept_number Short (negsuc n) w h =
    let le : n ≤ 32767 = leb-true n 32767 (both_true (int_le (negsuc 32767) (negsuc n)) true h).0 in
    let high : 32768 ≤ 65536 - 1 - n % 65536 = omega arith in
    let e : nat_le 32768 (65536 - 1 - n % 65536) ≡ true = grind (arith, nat_tests, high) in
    let is : pos (65536 - 1 - n % 65536) -ℤ pos 65536 ≡ negsuc n = omega (arith, ints) in
    ap (λ b. if b then pos (65536 - 1 - n % 65536) -ℤ pos 65536 else pos (65536 - 1 - n % 65536)) e ∙ is
kept_number Int z w h = cc
kept_number UnsignedInt z w h = cc
kept_number Long z w h = cc
kept_number UnsignedLong z w h = cc

-- a number converted to 32 bits with a sign has the same word
word_int : (z : ℤ) → unsigned_bits (converted int_type z) ≡ unsigned_bits z
word_int z = go (nat_le 2147483648 (unsigned_bits z)) refl
  where
    below : (z : ℤ) → unsigned_bits z < 4294967296
    below (pos n) = omega arith
    below (negsuc n) = omega arith

    high : (k : ℕ) → 2147483648 ≤ k → k < 4294967296 → (y : ℤ) → pos k -ℤ pos 4294967296 ≡ y → unsigned_bits y ≡ k
    high k le lt (pos n) e = absurd (omega (arith, ints, le, lt, e))
    high k le lt (negsuc n) e = omega (arith, ints, le, lt, e)

    go : (b : Bool) → nat_le 2147483648 (unsigned_bits z) ≡ b → unsigned_bits (converted int_type z) ≡ unsigned_bits z
    go true e =
        let lt = below z in
        ap (λ b. unsigned_bits (if b then pos (unsigned_bits z) -ℤ pos 4294967296 else pos (unsigned_bits z))) e ∙ high (unsigned_bits z) (leb-true 2147483648 (unsigned_bits z) e) lt (pos (unsigned_bits z) -ℤ pos 4294967296) refl
    go false e =
        let lt = below z in
        let small : unsigned_bits z % 4294967296 ≡ unsigned_bits z = omega (arith, lt) in
        ap (λ b. unsigned_bits (if b then pos (unsigned_bits z) -ℤ pos 4294967296 else pos (unsigned_bits z))) e ∙ small

wide_word : (u : IntegerType) (z : ℤ) → is_narrow u ≡ false → unsigned_bits (wrapped u z) ≡ unsigned_bits z
wide_word Char z w = cc
wide_word SignedChar z w = cc
wide_word UnsignedChar z w = cc
wide_word Short z w = cc
wide_word UnsignedShort z w = cc
wide_word Int z w = word_int z
wide_word UnsignedInt z w = word_unsigned z
wide_word Long z w = word_int z
wide_word UnsignedLong z w = word_unsigned z

-- A conversion that keeps bits changes no word of a number of its type.
pub kept_word : (t u : IntegerType) (z : ℤ) → keeps_bits t u ≡ true → holds (integer t) z ≡ true → unsigned_bits (wrapped u z) ≡ unsigned_bits z
kept_word t u z k h = go (is_narrow u) refl k
  where
    go : (b : Bool) → is_narrow u ≡ b → not b || is_within t u ≡ true → unsigned_bits (wrapped u z) ≡ unsigned_bits z
    go true e k = ap unsigned_bits (kept_number u z e (within_holds t u z k h))
    go false e k = wide_word u z e

-- the word of a number below 0, by its bits
below_zero : (range k : ℕ) → k < range → range ≤ 4294967296 → (y : ℤ) → pos k -ℤ pos range ≡ y → unsigned_bits y ≡ k + (4294967296 - range)
below_zero range k lt le (pos n) e = absurd (omega (arith, ints, le, lt, e))
below_zero range k lt le (negsuc n) e = omega (arith, ints, le, lt, e)

-- a truncation to a type with a sign
signed_truncation : (low range half : ℕ) → low < range → range ≤ 4294967296 → half ≡ range / 2 → (b : Bool) → nat_le half low ≡ b → sign_extended low range ≡ unsigned_bits (if b then pos low -ℤ pos range else pos low)
signed_truncation low range half lt le halved true e =
    let above = leb-true half low e in
    let no : nat_lt low (range / 2) ≡ false = grind (arith, nat_tests, above, halved) in
    ap (λ c. if c then low else low + (4294967296 - range)) no ∙ sym (below_zero range low lt le (pos low -ℤ pos range) refl)
signed_truncation low range half lt le halved false e =
    let under : low < half = grind (arith, nat_tests, e) in
    let yes : nat_lt low (range / 2) ≡ true = grind (arith, nat_tests, under, halved) in
    let small : low ≡ low % 4294967296 = omega (arith, lt, le) in
    ap (λ c. if c then low else low + (4294967296 - range)) yes ∙ small

byte_bits : (z : ℤ) → unsigned_bits z % 256 ≡ modulo 256 z
byte_bits (pos n) = omega arith
byte_bits (negsuc n) = omega arith

half_bits : (z : ℤ) → unsigned_bits z % 65536 ≡ modulo 65536 z
half_bits (pos n) = omega arith
half_bits (negsuc n) = omega arith

byte_below : (z : ℤ) → modulo 256 z < 256
byte_below (pos n) = omega arith
byte_below (negsuc n) = omega arith

half_below : (z : ℤ) → modulo 65536 z < 65536
half_below (pos n) = omega arith
half_below (negsuc n) = omega arith

-- What a truncation to a narrow type leaves of a word is the word of the converted number.
pub truncated_word : (u : IntegerType) (z : ℤ) → is_narrow u ≡ true → truncated (truncation_to u) (unsigned_bits z) ≡ unsigned_bits (wrapped u z)
unfolding truncated
truncated_word Char z w = let lt = byte_below z in byte_bits z ∙ omega (arith, lt)
truncated_word UnsignedChar z w = let lt = byte_below z in byte_bits z ∙ omega (arith, lt)
truncated_word UnsignedShort z w = let lt = half_below z in half_bits z ∙ omega (arith, lt)
truncated_word SignedChar z w =
    let lt = byte_below z in
    ap (λ k. sign_extended k 256) (byte_bits z) ∙ signed_truncation (modulo 256 z) 256 128 lt (omega arith) refl (nat_le 128 (modulo 256 z)) refl
truncated_word Short z w =
    let lt = half_below z in
    ap (λ k. sign_extended k 65536) (half_bits z) ∙ signed_truncation (modulo 65536 z) 65536 32768 lt (omega arith) refl (nat_le 32768 (modulo 65536 z)) refl
truncated_word Int z w = cc
truncated_word UnsignedInt z w = cc
truncated_word Long z w = cc
truncated_word UnsignedLong z w = cc

-- a number and its word are converted alike
pub converted_word : (u : IntegerType) (z : ℤ) → wrapped u z ≡ wrapped u (pos (unsigned_bits z))
converted_word Char z = ap (number_of_bits (integer Char)) (sym (byte_bits z))
converted_word UnsignedChar z = ap (number_of_bits (integer Char)) (sym (byte_bits z))
converted_word SignedChar z = ap (number_of_bits (integer SignedChar)) (sym (byte_bits z))
converted_word Short z = ap (number_of_bits (integer Short)) (sym (half_bits z))
converted_word UnsignedShort z = ap (number_of_bits (integer UnsignedShort)) (sym (half_bits z))
converted_word Int z = ap (number_of_bits (integer Int)) (whole z)
  where
    whole : (z : ℤ) → unsigned_bits z ≡ unsigned_bits z % 4294967296
    whole (pos n) = omega arith
    whole (negsuc n) = omega arith
converted_word UnsignedInt z = ap (number_of_bits (integer UnsignedInt)) (whole z)
  where
    whole : (z : ℤ) → unsigned_bits z ≡ unsigned_bits z % 4294967296
    whole (pos n) = omega arith
    whole (negsuc n) = omega arith
converted_word Long z = ap (number_of_bits (integer Int)) (whole z)
  where
    whole : (z : ℤ) → unsigned_bits z ≡ unsigned_bits z % 4294967296
    whole (pos n) = omega arith
    whole (negsuc n) = omega arith
converted_word UnsignedLong z = ap (number_of_bits (integer UnsignedInt)) (whole z)
  where
    whole : (z : ℤ) → unsigned_bits z ≡ unsigned_bits z % 4294967296
    whole (pos n) = omega arith
    whole (negsuc n) = omega arith
