-- What operators give of numbers of their type is of their type, and each operation of the machine computes it.
use Rattle.std.proofs.Common.{◌≡◌, ℕ, suc, ◌/◌, ◌%◌, ◌^◌, ◌<◌, ◌≤◌, ◌⊎◌, inl, inr, Bool, true, false, not, ◌&&◌, Option, Some, None, refl, sym, ap, ◌∙◌, arith, ℤ, pos, negsuc, ◌+ℤ◌, ◌-ℤ◌, ◌*ℤ◌, bit_and, bit_or, bit_xor}
use Rattle.std.specs.Prelude.{◌==◌, if◌then◌else◌, int_le, int_lt, nat_le, int_div, int_rem, unsigned_abs}
use Rattle.std.proofs.lemmas.Int.{ints, rem_below}
use Rattle.std.proofs.lemmas.Nat.{or_lt, xor_lt, shr_le, mod_below}
use Rattle.std.proofs.lemmas.Bool.{leb-true}
use Rattle.std.proofs.lemmas.Bool.Decides.{nat_tests}
use Rattle.c_tree.specs.declared.types.IntegerType.{IntegerType}
use Rattle.c_tree.specs.declared.types.IntegerType.TheVariants.{Char, SignedChar, UnsignedChar, Short, UnsignedShort, Int, UnsignedInt, Long, UnsignedLong}
use Rattle.c_tree.specs.declared.typed_expression.Arithmetic as declared
use Rattle.c_tree.specs.declared.typed_expression.Arithmetic.TheVariants as arithmetic-is
use Rattle.c_type_rules.specs.Constants.{calculated}
use Rattle.c_type_rules.specs.Integers.{integer}
use Rattle.word_base.specs.Types as word
use Rattle.word_base.specs.Types.{holds, in_range, unsigned_type, int_type, number_of_bits, modulo}
use Rattle.word_base.specs.Operations.{result_of_type, remainder, is_shift_count, right_shift, on_bits}
use Rattle.word_base.specs.Words.{shifted_down}
use Rattle.c_type_laws.specs.Kinds.{is_promoted}
use Rattle.graph_build_runs.proofs.Words.{both_true, in_range_is}
use Rattle.graph_build_runs.proofs.Arithmetic.{IsRight, Computes, add_computes, subtract_computes}
use Rattle.graph_build_runs.proofs.Fragment.{kept_holds}
use Rattle.graph_build_runs.proofs.Products.{multiply_computes, divide_computes, remainder_computes, left_computes, right_computes, and_computes, or_computes, xor_computes}
use Rattle.base_laws.proofs.Numbers.{and_lt}
use Rattle.base_laws.proofs.Options.{if_none as none_or, remainder_is as some_or}

-- what an operator gives of numbers of its type is of its type
abbrev pub Remains : declared.Arithmetic → IntegerType → Type 0
Remains o t = (a b z : ℤ) → holds (integer t) a ≡ true → IsRight o t b → calculated o t a b ≡ Some z → holds (integer t) z ≡ true

in_range_holds : (t : word.IntegerType) (y z : ℤ) → in_range t y ≡ Some z → holds t z ≡ true
in_range_holds t y z h = let r = in_range_is t y z h in ap (holds t) (sym r.1) ∙ r.0

-- a number between bounds
between : (n : ℕ) → n ≤ 2147483647 → holds int_type (pos n) ≡ true
between n le = grind (arith, nat_tests, le)

between_below : (n : ℕ) → n ≤ 2147483647 → holds int_type (negsuc n) ≡ true
between_below n le = let a : int_le (negsuc 2147483647) (negsuc n) ≡ true = grind (arith, nat_tests, le) in ap (λ c. c && true) a

between_unsigned : (n : ℕ) → n ≤ 4294967295 → holds unsigned_type (pos n) ≡ true
between_unsigned n le = grind (arith, nat_tests, le)

int_bound : (n : ℕ) → holds int_type (pos n) ≡ true → n ≤ 2147483647
int_bound n h = leb-true n 2147483647 h

int_below : (n : ℕ) → holds int_type (negsuc n) ≡ true → n ≤ 2147483647
int_below n h = leb-true n 2147483647 (both_true (int_le (negsuc 2147483647) (negsuc n)) true h).0

unsigned_bound : (n : ℕ) → holds unsigned_type (pos n) ≡ true → n ≤ 4294967295
unsigned_bound n h = leb-true n 4294967295 (both_true (int_le (pos 0) (pos n)) (int_le (pos n) (pos 4294967295)) h).1

-- a remainder of numbers with a sign
near_holds : (r b : ℤ) → holds int_type b ≡ true → unsigned_abs r < unsigned_abs b → holds int_type r ≡ true
near_holds (pos n) (pos m) h lt = let le = int_bound m h in let k : n < m = lt in between n (omega (arith, le, k))
near_holds (pos n) (negsuc m) h lt = let le = int_below m h in let k : n < suc m = lt in between n (omega (arith, le, k))
near_holds (negsuc n) (pos m) h lt = let le = int_bound m h in let k : suc n < m = lt in between_below n (omega (arith, le, k))
near_holds (negsuc n) (negsuc m) h lt = let le = int_below m h in let k : suc n < suc m = lt in between_below n (omega (arith, le, k))

positive : (b : ℤ) (r : Option ℤ) (z : ℤ) → (if unsigned_abs b == 0 then None else r) ≡ Some z → 0 < unsigned_abs b
positive b r z h = go (unsigned_abs b == 0) refl h
  where
    go : (c : Bool) → unsigned_abs b == 0 ≡ c → (if c then None else r) ≡ Some z → 0 < unsigned_abs b
    go true e k = cc
    go false e k = grind (arith, nat_tests, e)

int_remainder : (a b z : ℤ) → holds int_type b ≡ true → remainder int_type a b ≡ Some z → holds int_type z ≡ true
int_remainder a b z hb h =
    let r = some_or (holds int_type (int_div a b)) (int_rem a b) z (none_or (unsigned_abs b == 0) (if holds int_type (int_div a b) then Some (int_rem a b) else None) z h) in
    ap (holds int_type) (sym r) ∙ near_holds (int_rem a b) b hb (rem_below a b (positive b (if holds int_type (int_div a b) then Some (int_rem a b) else None) z h))

unsigned_remainder : (a b z : ℤ) → holds unsigned_type a ≡ true → holds unsigned_type b ≡ true → remainder unsigned_type a b ≡ Some z → holds unsigned_type z ≡ true
unsigned_remainder (negsuc m) b z ha hb h = cc
unsigned_remainder (pos m) (negsuc n) z ha hb h = cc
unsigned_remainder (pos m) (pos n) z ha hb h =
    let r = some_or (holds unsigned_type (int_div (pos m) (pos n))) (int_rem (pos m) (pos n)) z (none_or (unsigned_abs (pos n) == 0) (if holds unsigned_type (int_div (pos m) (pos n)) then Some (int_rem (pos m) (pos n)) else None) z h) in
    let some : 0 < n = positive (pos n) (if holds unsigned_type (int_div (pos m) (pos n)) then Some (int_rem (pos m) (pos n)) else None) z h in
    let below : m % n < n = mod_below m n some in
    let le = unsigned_bound n hb in
    ap (holds unsigned_type) (sym r) ∙ between_unsigned (m % n) (omega (arith, below, le))

int_shifted : (a n z : ℤ) → holds int_type a ≡ true → right_shift int_type a n ≡ Some z → holds int_type z ≡ true
int_shifted (pos m) n z ha h =
    let r = some_or (is_shift_count int_type n) (shifted_down (pos m) (unsigned_abs n)) z h in
    let le = int_bound m ha in let less = shr_le m (unsigned_abs n) in
    ap (holds int_type) (sym r) ∙ between (m / 2 ^ unsigned_abs n) (omega (arith, le, less))
int_shifted (negsuc m) n z ha h =
    let r = some_or (is_shift_count int_type n) (shifted_down (negsuc m) (unsigned_abs n)) z h in
    let le = int_below m ha in let less = shr_le m (unsigned_abs n) in
    ap (holds int_type) (sym r) ∙ between_below (m / 2 ^ unsigned_abs n) (omega (arith, le, less))

unsigned_shifted : (a n z : ℤ) → holds unsigned_type a ≡ true → right_shift unsigned_type a n ≡ Some z → holds unsigned_type z ≡ true
unsigned_shifted (negsuc m) n z ha h = cc
unsigned_shifted (pos m) n z ha h =
    let r = some_or (is_shift_count unsigned_type n) (shifted_down (pos m) (unsigned_abs n)) z h in
    let le = unsigned_bound m ha in let less = shr_le m (unsigned_abs n) in
    ap (holds unsigned_type) (sym r) ∙ between_unsigned (m / 2 ^ unsigned_abs n) (omega (arith, le, less))

-- the number of a type that has some bits
int_of_bits : (k : ℕ) → k < 4294967296 → holds int_type (number_of_bits int_type k) ≡ true
int_of_bits k lt = go (nat_le 2147483648 k) refl
  where
    high : 2147483648 ≤ k → (y : ℤ) → pos k -ℤ pos 4294967296 ≡ y → holds int_type y ≡ true
    high le (pos n) e = absurd (omega (arith, ints, le, lt, e))
    high le (negsuc n) e = between_below n (omega (arith, ints, le, lt, e))

    go : (b : Bool) → nat_le 2147483648 k ≡ b → holds int_type (if b then pos k -ℤ pos 4294967296 else pos k) ≡ true
    go true e = high (leb-true 2147483648 k e) (pos k -ℤ pos 4294967296) refl
    go false e = let less : k < 2147483648 = grind (arith, nat_tests, e) in between k (omega (arith, less))

bits_below : (z : ℤ) → modulo (2 ^ 32) z < 2 ^ 32
bits_below (pos n) = omega arith
bits_below (negsuc n) = omega arith

int_of_two : (f : ℕ → ℕ → ℕ) (below : (m n : ℕ) → m < 2 ^ 32 → n < 2 ^ 32 → f m n < 2 ^ 32) (a b z : ℤ) → Some (on_bits int_type f a b) ≡ Some z → holds int_type z ≡ true
int_of_two f below a b z h =
    let same : on_bits int_type f a b ≡ z = cc in
    ap (holds int_type) (sym same) ∙ int_of_bits (f (modulo (2 ^ 32) a) (modulo (2 ^ 32) b)) (below (modulo (2 ^ 32) a) (modulo (2 ^ 32) b) (bits_below a) (bits_below b))

unsigned_of_two : (f : ℕ → ℕ → ℕ) (below : (m n : ℕ) → m < 2 ^ 32 → n < 2 ^ 32 → f m n < 2 ^ 32) (a b z : ℤ) → Some (on_bits unsigned_type f a b) ≡ Some z → holds unsigned_type z ≡ true
unsigned_of_two f below a b z h =
    let same : on_bits unsigned_type f a b ≡ z = cc in
    let lt = below (modulo (2 ^ 32) a) (modulo (2 ^ 32) b) (bits_below a) (bits_below b) in
    ap (holds unsigned_type) (sym same) ∙ between_unsigned (f (modulo (2 ^ 32) a) (modulo (2 ^ 32) b)) (omega (arith, lt))

-- in a type with a sign
int_remains : (o : declared.Arithmetic) (a b z : ℤ) → holds int_type a ≡ true → (holds int_type b ≡ true) ⊎ ((o ≡ arithmetic-is.ShiftLeft) ⊎ (o ≡ arithmetic-is.ShiftRight)) → calculated o Int a b ≡ Some z → holds int_type z ≡ true
int_remains arithmetic-is.Multiply a b z ha hb h = kept_holds Int (a *ℤ b) z h
int_remains arithmetic-is.Divide a b z ha hb h = in_range_holds int_type (int_div a b) z (none_or (unsigned_abs b == 0) (in_range int_type (int_div a b)) z h)
int_remains arithmetic-is.Remainder a b z ha (inl hb) h = int_remainder a b z hb h
int_remains arithmetic-is.Remainder a b z ha (inr (inl e)) h = cc
int_remains arithmetic-is.Remainder a b z ha (inr (inr e)) h = cc
int_remains arithmetic-is.Add a b z ha hb h = kept_holds Int (a +ℤ b) z h
int_remains arithmetic-is.Subtract a b z ha hb h = kept_holds Int (a -ℤ b) z h
int_remains arithmetic-is.ShiftLeft a b z ha hb h =
    kept_holds Int (a *ℤ pos (2 ^ unsigned_abs b)) z (none_or (int_lt a (pos 0)) (result_of_type int_type (a *ℤ pos (2 ^ unsigned_abs b))) z (none_or (not (is_shift_count int_type b)) (if int_lt a (pos 0) then None else result_of_type int_type (a *ℤ pos (2 ^ unsigned_abs b))) z h))
int_remains arithmetic-is.ShiftRight a b z ha hb h = int_shifted a b z ha h
int_remains arithmetic-is.BitAnd a b z ha hb h = int_of_two bit_and and_lt a b z h
int_remains arithmetic-is.BitXor a b z ha hb h = int_of_two bit_xor (xor_lt 32) a b z h
int_remains arithmetic-is.BitOr a b z ha hb h = int_of_two bit_or (or_lt 32) a b z h

-- in one without
unsigned_remains : (o : declared.Arithmetic) (a b z : ℤ) → holds unsigned_type a ≡ true → (holds unsigned_type b ≡ true) ⊎ ((o ≡ arithmetic-is.ShiftLeft) ⊎ (o ≡ arithmetic-is.ShiftRight)) → calculated o UnsignedInt a b ≡ Some z → holds unsigned_type z ≡ true
unsigned_remains arithmetic-is.Multiply a b z ha hb h = kept_holds UnsignedInt (a *ℤ b) z h
unsigned_remains arithmetic-is.Divide a b z ha hb h = in_range_holds unsigned_type (int_div a b) z (none_or (unsigned_abs b == 0) (in_range unsigned_type (int_div a b)) z h)
unsigned_remains arithmetic-is.Remainder a b z ha (inl hb) h = unsigned_remainder a b z ha hb h
unsigned_remains arithmetic-is.Remainder a b z ha (inr (inl e)) h = cc
unsigned_remains arithmetic-is.Remainder a b z ha (inr (inr e)) h = cc
unsigned_remains arithmetic-is.Add a b z ha hb h = kept_holds UnsignedInt (a +ℤ b) z h
unsigned_remains arithmetic-is.Subtract a b z ha hb h = kept_holds UnsignedInt (a -ℤ b) z h
unsigned_remains arithmetic-is.ShiftLeft a b z ha hb h = kept_holds UnsignedInt (a *ℤ pos (2 ^ unsigned_abs b)) z (none_or (not (is_shift_count unsigned_type b)) (result_of_type unsigned_type (a *ℤ pos (2 ^ unsigned_abs b))) z h)
unsigned_remains arithmetic-is.ShiftRight a b z ha hb h = unsigned_shifted a b z ha h
unsigned_remains arithmetic-is.BitAnd a b z ha hb h = unsigned_of_two bit_and and_lt a b z h
unsigned_remains arithmetic-is.BitXor a b z ha hb h = unsigned_of_two bit_xor (xor_lt 32) a b z h
unsigned_remains arithmetic-is.BitOr a b z ha hb h = unsigned_of_two bit_or (or_lt 32) a b z h

-- a right operand is of the operator's type, but for a shift's count
right_is : (o : declared.Arithmetic) (t : IntegerType) (b : ℤ) → IsRight o t b → (holds (integer t) b ≡ true) ⊎ ((o ≡ arithmetic-is.ShiftLeft) ⊎ (o ≡ arithmetic-is.ShiftRight))
right_is arithmetic-is.Multiply t b h = inl h
right_is arithmetic-is.Divide t b h = inl h
right_is arithmetic-is.Remainder t b h = inl h
right_is arithmetic-is.Add t b h = inl h
right_is arithmetic-is.Subtract t b h = inl h
right_is arithmetic-is.ShiftLeft t b h = inr (inl refl)
right_is arithmetic-is.ShiftRight t b h = inr (inr refl)
right_is arithmetic-is.BitAnd t b h = inl h
right_is arithmetic-is.BitXor t b h = inl h
right_is arithmetic-is.BitOr t b h = inl h

long_is : (o : declared.Arithmetic) (a b : ℤ) → calculated o Long a b ≡ calculated o Int a b
long_is arithmetic-is.Multiply a b = refl
long_is arithmetic-is.Divide a b = refl
long_is arithmetic-is.Remainder a b = refl
long_is arithmetic-is.Add a b = refl
long_is arithmetic-is.Subtract a b = refl
long_is arithmetic-is.ShiftLeft a b = refl
long_is arithmetic-is.ShiftRight a b = refl
long_is arithmetic-is.BitAnd a b = refl
long_is arithmetic-is.BitXor a b = refl
long_is arithmetic-is.BitOr a b = refl

unsigned_long_is : (o : declared.Arithmetic) (a b : ℤ) → calculated o UnsignedLong a b ≡ calculated o UnsignedInt a b
unsigned_long_is arithmetic-is.Multiply a b = refl
unsigned_long_is arithmetic-is.Divide a b = refl
unsigned_long_is arithmetic-is.Remainder a b = refl
unsigned_long_is arithmetic-is.Add a b = refl
unsigned_long_is arithmetic-is.Subtract a b = refl
unsigned_long_is arithmetic-is.ShiftLeft a b = refl
unsigned_long_is arithmetic-is.ShiftRight a b = refl
unsigned_long_is arithmetic-is.BitAnd a b = refl
unsigned_long_is arithmetic-is.BitXor a b = refl
unsigned_long_is arithmetic-is.BitOr a b = refl

-- Each operator gives numbers of its type.
pub remains : (o : declared.Arithmetic) (t : IntegerType) → is_promoted t ≡ true → Remains o t
remains o Char p a b z ha hb h = cc
remains o SignedChar p a b z ha hb h = cc
remains o UnsignedChar p a b z ha hb h = cc
remains o Short p a b z ha hb h = cc
remains o UnsignedShort p a b z ha hb h = cc
remains o Int p a b z ha hb h = int_remains o a b z ha (right_is o Int b hb) h
remains o UnsignedInt p a b z ha hb h = unsigned_remains o a b z ha (right_is o UnsignedInt b hb) h
remains o Long p a b z ha hb h = int_remains o a b z ha (right_is o Long b hb) (sym (long_is o a b) ∙ h)
remains o UnsignedLong p a b z ha hb h = unsigned_remains o a b z ha (right_is o UnsignedLong b hb) (sym (unsigned_long_is o a b) ∙ h)

-- Each operation of the machine gives the word of what C makes of numbers.
pub computes : (o : declared.Arithmetic) (t : IntegerType) → is_promoted t ≡ true → Computes o t
computes arithmetic-is.Multiply t p = multiply_computes t p
computes arithmetic-is.Divide t p = divide_computes t p
computes arithmetic-is.Remainder t p = remainder_computes t p
computes arithmetic-is.Add t p = add_computes t p
computes arithmetic-is.Subtract t p = subtract_computes t p
computes arithmetic-is.ShiftLeft t p = left_computes t p
computes arithmetic-is.ShiftRight t p = right_computes t p
computes arithmetic-is.BitAnd t p = and_computes t p
computes arithmetic-is.BitXor t p = xor_computes t p
computes arithmetic-is.BitOr t p = or_computes t p
