-- What operations compute of words is a word.
use Rattle.std.proofs.Common.{◌≡◌, ℕ, zero, suc, ◌-◌, ◌*◌, ◌/◌, ◌%◌, ◌^◌, ◌<◌, ◌≤◌, arith, refl, inl, inr, Bool, true, false, cond}
use Rattle.std.specs.Prelude.{ℤ, pos, negsuc, ◌*ℤ◌, ◌==◌, nat_lt, int_lt, int_div, int_rem, unsigned_abs}
use Rattle.std.proofs.Math.Nat.{div-le_self, mod-le, mul-le-mul}
use borrow.Author.Tests.{ltb-false}
use mir.Val.{sel}
use lib.IntN.{neg_ℤ}
use Rattle.std.proofs.lemmas.Nat.{and_le_l, or_lt, xor_lt}
use Rattle.word_base.specs.Words.{signed_number, word_of, upper_half, shifted_down, word_of_test}
use Rattle.rv_code.specs.declared.instruction.ImmediateOperation.{ImmediateOperation}
use Rattle.rv_code.specs.declared.instruction.ImmediateOperation.TheVariants.{Addi, Slti, Sltiu, Xori, Ori, Andi, Slli, Srli, Srai}
use Rattle.rv_code.specs.declared.instruction.RegisterOperation.{RegisterOperation}
use Rattle.rv_code.specs.declared.instruction.RegisterOperation.TheVariants.{Add, Sub, Sll, Slt, Sltu, Xor, Srl, Sra, Or, And, Mul, Mulh, Mulhsu, Mulhu, Div, Divu, Rem, Remu}
use Rattle.rv_code.specs.InForm.{IsImmediateOf}
use Rattle.rv_machine.specs.Table.{operation_result, operated_immediate}

-- A number of which the word is the number itself is below 2^32.
Below : ℤ → Type 0
Below (pos n) = n < 4294967296
Below (negsuc n) = Unit {0}

-- A number that has at most 32 bits.
Within : ℤ → Type 0
Within (pos n) = n < 4294967296
Within (negsuc n) = suc n < 4294967296

word_of_small : (z : ℤ) → Below z → word_of z < 4294967296
unfolding Below
word_of_small (pos n) h = h
word_of_small (negsuc n) h = omega arith

signed_within : (a : ℕ) → a < 4294967296 → Within (signed_number a)
unfolding Within
signed_within a h = by_test (nat_lt a 2147483648) refl
  where
    by_test : (b : Bool) → nat_lt a 2147483648 ≡ b → Within (sel b (pos a) (negsuc (4294967296 - suc a)))
    by_test true e = h
    by_test false e = let low = ltb-false a 2147483648 e in omega arith

unsigned_within : (a : ℕ) → a < 4294967296 → Within (pos a)
unfolding Within
unsigned_within a h = h

minus_below : (n : ℕ) → Below (neg_ℤ (pos n))
unfolding Below
minus_below zero = omega arith
minus_below (suc n) = tt

quotient_below : (z d : ℤ) → Within z → Below (int_div z d)
unfolding Within Below
quotient_below (pos a) (pos b) h = omega (arith, div-le_self a b)
quotient_below (pos a) (negsuc b) h = minus_below (a / suc b)
quotient_below (negsuc a) (pos b) h = minus_below (suc a / b)
quotient_below (negsuc a) (negsuc b) h = omega (arith, div-le_self (suc a) (suc b))

remainder_below : (z d : ℤ) → Within z → Below (int_rem z d)
unfolding Within Below
remainder_below (pos a) d h = omega (arith, mod-le a (unsigned_abs d))
remainder_below (negsuc a) d h = minus_below (suc a % unsigned_abs d)

shifted_below : (z : ℤ) (n : ℕ) → Within z → Below (shifted_down z n)
unfolding Within Below
shifted_below (pos a) n h = omega (arith, div-le_self a (2 ^ n))
shifted_below (negsuc a) n h = tt

product_small : (a b : ℕ) → a < 4294967296 → b < 4294967296 → a * b / 4294967296 < 4294967296
product_small a b ha hb =
    let la : a ≤ 4294967295 = omega arith in
    let lb : b ≤ 4294967295 = omega arith in
    let h : a * b ≤ 4294967295 * 4294967295 = mul-le-mul la lb in
    omega arith

upper_minus : (n : ℕ) → upper_half (neg_ℤ (pos n)) < 4294967296
upper_minus zero = omega arith
upper_minus (suc n) = omega arith

upper_half_small : (z d : ℤ) → Within z → Within d → upper_half (z *ℤ d) < 4294967296
unfolding Within
upper_half_small (pos a) (pos b) ha hb = product_small a b ha hb
upper_half_small (pos a) (negsuc b) ha hb = upper_minus (a * suc b)
upper_half_small (negsuc a) (pos b) ha hb = upper_minus (suc a * b)
upper_half_small (negsuc a) (negsuc b) ha hb = product_small (suc a) (suc b) ha hb

test_small : (b : Bool) → word_of_test b < 4294967296
test_small true = omega arith
test_small false = omega arith

-- A quotient of a word, and a remainder of one.
quotient_small : (a k : ℕ) → a < 4294967296 → a / k < 4294967296
quotient_small a k h = omega (arith, div-le_self a k)

-- What a test chooses of two words is a word.
chosen_small : (t : Bool) (a b : ℕ) → a < 4294967296 → b < 4294967296 → cond t a b < 4294967296
chosen_small true a b ha hb = ha
chosen_small false a b ha hb = hb

pub operated_in_range : (op : RegisterOperation) (a b : ℕ) → a < 4294967296 → b < 4294967296 → operation_result op a b < 4294967296
unfolding operation_result
operated_in_range Add a b ha hb = omega arith
operated_in_range Sub a b ha hb = omega arith
operated_in_range Sll a b ha hb = omega arith
operated_in_range Slt a b ha hb = test_small (int_lt (signed_number a) (signed_number b))
operated_in_range Sltu a b ha hb = test_small (nat_lt a b)
operated_in_range Xor a b ha hb = xor_lt 32 a b ha hb
operated_in_range Srl a b ha hb = quotient_small a (2 ^ (b % 32)) ha
operated_in_range Sra a b ha hb = word_of_small (shifted_down (signed_number a) (b % 32)) (shifted_below (signed_number a) (b % 32) (signed_within a ha))
operated_in_range Or a b ha hb = or_lt 32 a b ha hb
operated_in_range And a b ha hb = omega (arith, and_le_l a b)
operated_in_range Mul a b ha hb = omega arith
operated_in_range Mulh a b ha hb = upper_half_small (signed_number a) (signed_number b) (signed_within a ha) (signed_within b hb)
operated_in_range Mulhsu a b ha hb = upper_half_small (signed_number a) (pos b) (signed_within a ha) (unsigned_within b hb)
operated_in_range Mulhu a b ha hb = product_small a b ha hb
operated_in_range Div a b ha hb = chosen_small (b == 0) 4294967295 (word_of (int_div (signed_number a) (signed_number b))) (omega arith) (word_of_small (int_div (signed_number a) (signed_number b)) (quotient_below (signed_number a) (signed_number b) (signed_within a ha)))
operated_in_range Divu a b ha hb = chosen_small (b == 0) 4294967295 (a / b) (omega arith) (quotient_small a b ha)
operated_in_range Rem a b ha hb = chosen_small (b == 0) a (word_of (int_rem (signed_number a) (signed_number b))) ha (word_of_small (int_rem (signed_number a) (signed_number b)) (remainder_below (signed_number a) (signed_number b) (signed_within a ha)))
operated_in_range Remu a b ha hb = chosen_small (b == 0) a (a % b) ha (omega (arith, mod-le a b))

-- An immediate that stands in an instruction is a word.
immediate_small : (op : ImmediateOperation) (n : ℕ) → IsImmediateOf op n → n < 4294967296
immediate_small Addi n (inl h) = omega arith
immediate_small Addi n (inr h) = h.1
immediate_small Slti n (inl h) = omega arith
immediate_small Slti n (inr h) = h.1
immediate_small Sltiu n (inl h) = omega arith
immediate_small Sltiu n (inr h) = h.1
immediate_small Xori n (inl h) = omega arith
immediate_small Xori n (inr h) = h.1
immediate_small Ori n (inl h) = omega arith
immediate_small Ori n (inr h) = h.1
immediate_small Andi n (inl h) = omega arith
immediate_small Andi n (inr h) = h.1
immediate_small Slli n h = omega arith
immediate_small Srli n h = omega arith
immediate_small Srai n h = omega arith

pub operated_immediate_in_range : (op : ImmediateOperation) (a n : ℕ) → a < 4294967296 → IsImmediateOf op n → operated_immediate op a n < 4294967296
unfolding operated_immediate
operated_immediate_in_range Addi a n ha hn = omega arith
operated_immediate_in_range Slti a n ha hn = test_small (int_lt (signed_number a) (signed_number n))
operated_immediate_in_range Sltiu a n ha hn = test_small (nat_lt a n)
operated_immediate_in_range Xori a n ha hn = xor_lt 32 a n ha (immediate_small Xori n hn)
operated_immediate_in_range Ori a n ha hn = or_lt 32 a n ha (immediate_small Ori n hn)
operated_immediate_in_range Andi a n ha hn = omega (arith, and_le_l a n)
operated_immediate_in_range Slli a n ha hn = omega arith
operated_immediate_in_range Srli a n ha hn = quotient_small a (2 ^ (n % 32)) ha
operated_immediate_in_range Srai a n ha hn = word_of_small (shifted_down (signed_number a) (n % 32)) (shifted_below (signed_number a) (n % 32) (signed_within a ha))
