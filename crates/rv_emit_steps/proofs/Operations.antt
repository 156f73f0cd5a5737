-- What the machine computes by the operation that code has is what the operation of units is.
use Rattle.std.proofs.Common.{◌≡◌, ℕ, zero, suc, ◌+◌, ◌-◌, ◌*◌, ◌/◌, ◌%◌, ◌^◌, ◌<◌, ◌≤◌, ⊎_elim, sym, ap, ◌∙◌, arith, refl, Option, Some, None, Bool, true, false, cond}
use Rattle.std.specs.Prelude.{◌==◌, nat_lt, nat_le, bit_and, bit_xor, pos, negsuc, option_map}
use Rattle.std.specs.Option.{option_map_or}
use Rattle.std.specs.Int.Bits.{xor_add_and, xor_self}
use Rattle.std.proofs.lemmas.Nat.{and_mask, and_le_l, and_le_r, and_comm, or_comm, xor_comm, pow_pos}
use Rattle.std.proofs.Math.Nat.{mul_comm}
use Rattle.std.proofs.lemmas.Bool.{eqb-true, eq-eqb, ne_eqb, lt-ltb, le-ltb, cases_lt}
use mir.Val.{sel}
use Rattle.word_base.specs.Words.{signed_number, word_of, shifted_down, word_of_test}
use Rattle.word_base.specs.Arithmetic.{subtracted}
use Rattle.word_base.specs.WordOperations.{word_operation, truncated}
use Rattle.word_base.specs.declared.operation.Operation.{Operation}
use Rattle.word_base.specs.declared.operation.Operation.TheVariants.{Add, Sub, Mul, Div, Divu, Rem, Remu, Sll, Srl, Sra, And, Or, Xor, Slt, Sltu}
use Rattle.word_base.specs.declared.operation.Truncation.TheVariants.{Unsigned8, Signed16, Unsigned16, Signed8}
use Rattle.rv_code.specs.declared.instruction.ImmediateOperation.{ImmediateOperation}
use Rattle.rv_code.specs.declared.instruction.ImmediateOperation.TheVariants.{Addi, Slti, Sltiu, Xori, Ori, Andi, Slli, Srli, Srai}
use Rattle.rv_code.specs.declared.instruction.RegisterOperation.TheVariants as on
use Rattle.rv_machine.specs.Table.{operation_result as done_on, operated_immediate}
use Rattle.rv_emit_words.specs.Constants.{is_small}
use Rattle.rv_emit_instructions.specs.Operations.{register_operation, is_commutative, power_from, power_of_two, if_small, if_low_power, immediate_form}

-- ---- On two registers

pub register_does : (op : Operation) (a b : ℕ) → done_on (register_operation op) a b ≡ word_operation op a b
unfolding done_on word_operation
register_does Add a b = refl
register_does Sub a b = refl
register_does Mul a b = refl
register_does Div a b = refl
register_does Divu a b = refl
register_does Rem a b = refl
register_does Remu a b = refl
register_does Sll a b = refl
register_does Srl a b = refl
register_does Sra a b = refl
register_does And a b = refl
register_does Or a b = refl
register_does Xor a b = refl
register_does Slt a b = refl
register_does Sltu a b = refl

-- ---- On a register and an immediate

-- The operation of an immediate form does of any word what the operation does with a word on the right.
abbrev pub FormDoes : Operation → (word : ℕ) → Option (ImmediateOperation × ℕ) → Type 0
FormDoes op w None = Unit {0}
FormDoes op w (Some f) = (a : ℕ) → a < 4294967296 → operated_immediate f.0 a f.1 ≡ word_operation op a w

-- A word is the power of two that was found, of a number below a limit.
abbrev IsPower : (word limit : ℕ) → Option ℕ → Type 0
IsPower w k None = Unit {0}
IsPower w k (Some e) = (w ≡ 2 ^ e) × (e < k)

power_is : (e n k w : ℕ) → e + n ≡ k → IsPower w k (power_from e n w)
power_is e zero k w sum = tt
power_is e (suc n) k w sum = by_test (w == 2 ^ e) refl (power_is (e + 1) n k w (omega arith))
  where
    by_test : (b : Bool) → (w == 2 ^ e) ≡ b → IsPower w k (power_from (e + 1) n w) → IsPower w k (cond b (Some e) (power_from (e + 1) n w))
    by_test true is rest = (eqb-true w (2 ^ e) is, omega arith)
    by_test false is rest = rest

small_does : (op : Operation) (i : ImmediateOperation) (w n : ℕ) → ((a : ℕ) → a < 4294967296 → operated_immediate i a n ≡ word_operation op a w) → FormDoes op w (if_small i n)
small_does op i w n does = by_test (is_small n)
  where
    by_test : (b : Bool) → FormDoes op w (cond b (Some (i, n)) None)
    by_test true = does
    by_test false = tt

product_does : (w : ℕ) (o : Option ℕ) → IsPower w 32 o → FormDoes Mul w (option_map (λ e. (Slli, e)) o)
unfolding word_operation operated_immediate
product_does w None power = tt
product_does w (Some e) power = λ a fits. (let low : e % 32 ≡ e = omega (arith, power.1) in ap (λ k. a * 2 ^ k % 4294967296) low ∙ ap (λ x. a * x % 4294967296) (sym power.0))

some_power : (e : ℕ) → (2 ^ e == 0) ≡ false
some_power e = ne_eqb (2 ^ e) 0 (λ h. omega (arith, pow_pos e))

quotient_does : (w : ℕ) (o : Option ℕ) → IsPower w 32 o → FormDoes Divu w (option_map (λ e. (Srli, e)) o)
unfolding word_operation operated_immediate
quotient_does w None power = tt
quotient_does w (Some e) power = λ a fits. (let low : e % 32 ≡ e = omega (arith, power.1) in
    ap (λ k. a / 2 ^ k) low ∙ ap (λ b. cond b 4294967295 (a / 2 ^ e)) (sym (some_power e)) ∙ ap (λ x. cond (x == 0) 4294967295 (a / x)) (sym power.0))

remainder_does : (w : ℕ) → w < 4294967296 → (o : Option ℕ) → IsPower w 32 o → FormDoes Remu w (option_map_or (if_low_power w) o None)
unfolding word_operation operated_immediate
remainder_does w fits None power = tt
remainder_does w fits (Some e) power = by_test (nat_le e 11)
  where
    minus_one : subtracted w 1 ≡ 2 ^ e - 1
    minus_one = let some : 0 < 2 ^ e = pow_pos e in omega (arith, power.0, some)

    by_test : (b : Bool) → FormDoes Remu w (cond b (Some (Andi, subtracted w 1)) None)
    by_test true = λ a small. ap (bit_and a) minus_one ∙ and_mask a e ∙ ap (λ b. cond b a (a % 2 ^ e)) (sym (some_power e)) ∙ ap (λ x. cond (x == 0) a (a % x)) (sym power.0)
    by_test false = tt

pub form_does : (op : Operation) (w : ℕ) → w < 4294967296 → FormDoes op w (immediate_form op w)
unfolding word_operation operated_immediate power_of_two
form_does Add w fits = small_does Add Addi w w (λ a small. refl)
form_does Sub w fits = small_does Sub Addi w (subtracted 0 w) (λ a small. omega arith)
form_does Mul w fits = product_does w (power_of_two w) (power_is 0 32 32 w refl)
form_does Div w fits = tt
form_does Divu w fits = quotient_does w (power_of_two w) (power_is 0 32 32 w refl)
form_does Rem w fits = tt
form_does Remu w fits = remainder_does w fits (power_of_two w) (power_is 0 32 32 w refl)
form_does Sll w fits = λ a small. (let low : w % 32 % 32 ≡ w % 32 = omega arith in ap (λ k. a * 2 ^ k % 4294967296) low)
form_does Srl w fits = λ a small. (let low : w % 32 % 32 ≡ w % 32 = omega arith in ap (λ k. a / 2 ^ k) low)
form_does Sra w fits = λ a small. (let low : w % 32 % 32 ≡ w % 32 = omega arith in ap (λ k. word_of (shifted_down (signed_number a) k)) low)
form_does And w fits = small_does And Andi w w (λ a small. refl)
form_does Or w fits = small_does Or Ori w w (λ a small. refl)
form_does Xor w fits = small_does Xor Xori w w (λ a small. refl)
form_does Slt w fits = small_does Slt Slti w w (λ a small. refl)
form_does Sltu w fits = small_does Sltu Sltiu w w (λ a small. refl)

-- Operands that may change places.
pub commutes : (op : Operation) (a b : ℕ) → is_commutative op ≡ true → word_operation op a b ≡ word_operation op b a
unfolding word_operation
commutes Add a b h = omega arith
commutes Sub a b h = cc
commutes Mul a b h = ap (λ n. n % 4294967296) (mul_comm a b)
commutes Div a b h = cc
commutes Divu a b h = cc
commutes Rem a b h = cc
commutes Remu a b h = cc
commutes Sll a b h = cc
commutes Srl a b h = cc
commutes Sra a b h = cc
commutes And a b h = and_comm a b
commutes Or a b h = or_comm a b
commutes Xor a b h = xor_comm a b
commutes Slt a b h = cc
commutes Sltu a b h = cc

-- ---- Truncations

pub low_byte : (a : ℕ) → operated_immediate Andi a 255 ≡ truncated Unsigned8 a
unfolding truncated operated_immediate
low_byte a = and_mask a 8

pub low_half : (a : ℕ) → operated_immediate Srli (operated_immediate Slli a 16) 16 ≡ truncated Unsigned16 a
unfolding truncated operated_immediate
low_half a = omega arith

-- A signed word over a power of two, rounded down.
shifted_back : (x k : ℕ) → x < 4294967296 → word_of (shifted_down (signed_number x) k) ≡ cond (nat_lt x 2147483648) (x / 2 ^ k) (4294967295 - (4294967295 - x) / 2 ^ k)
shifted_back x k fits = by_test (nat_lt x 2147483648)
  where
    by_test : (b : Bool) → word_of (shifted_down (sel b (pos x) (negsuc (4294967296 - suc x))) k) ≡ cond b (x / 2 ^ k) (4294967295 - (4294967295 - x) / 2 ^ k)
    by_test true = refl
    by_test false = let e : 4294967296 - suc x ≡ 4294967295 - x = omega arith in ap (λ n. word_of (negsuc (n / 2 ^ k))) e ∙ (omega arith)

pub signed_low_byte : (a : ℕ) → operated_immediate Srai (operated_immediate Slli a 24) 24 ≡ truncated Signed8 a
unfolding truncated operated_immediate
signed_low_byte a =
    let x : ℕ = a * 16777216 % 4294967296 in
    shifted_back x 24 (omega arith) ∙ ⊎_elim
    (λ (low : a % 256 < 128). let t1 : nat_lt (a * 16777216 % 4294967296) 2147483648 ≡ true = lt-ltb _ _ (omega arith) in let t2 : nat_lt (a % 256) 128 ≡ true = lt-ltb _ _ low in simp (t1, t2) (omega arith))
    (λ (high : 128 ≤ a % 256). let t1 : nat_lt (a * 16777216 % 4294967296) 2147483648 ≡ false = le-ltb _ _ (omega arith) in let t2 : nat_lt (a % 256) 128 ≡ false = le-ltb _ _ high in simp (t1, t2) (omega arith))
    (cases_lt (a % 256) 128)

pub signed_low_half : (a : ℕ) → operated_immediate Srai (operated_immediate Slli a 16) 16 ≡ truncated Signed16 a
unfolding truncated operated_immediate
signed_low_half a =
    let x : ℕ = a * 65536 % 4294967296 in
    shifted_back x 16 (omega arith) ∙ ⊎_elim
    (λ (low : a % 65536 < 32768). let t1 : nat_lt (a * 65536 % 4294967296) 2147483648 ≡ true = lt-ltb _ _ (omega arith) in let t2 : nat_lt (a % 65536) 32768 ≡ true = lt-ltb _ _ low in simp (t1, t2) (omega arith))
    (λ (high : 32768 ≤ a % 65536). let t1 : nat_lt (a * 65536 % 4294967296) 2147483648 ≡ false = le-ltb _ _ (omega arith) in let t2 : nat_lt (a % 65536) 32768 ≡ false = le-ltb _ _ high in simp (t1, t2) (omega arith))
    (cases_lt (a % 65536) 32768)

-- ---- Comparisons

pub is_none : (a : ℕ) → operated_immediate Sltiu a 1 ≡ word_of_test (a == 0)
unfolding operated_immediate
is_none zero = refl
is_none (suc a) = let t : nat_lt (suc a) 1 ≡ false = le-ltb (suc a) 1 (omega arith) in let u : (suc a == 0) ≡ false = ne_eqb (suc a) 0 (λ e. omega arith) in simp (t, u) refl

-- Words differ by no bit where they are the same.
same_bits : (a b : ℕ) → bit_xor a b ≡ 0 → a ≡ b
same_bits a b none = let sum = xor_add_and a b in let l = and_le_l a b in let r = and_le_r a b in omega (arith, none, sum, l, r)

pub none_differ : (a b : ℕ) → operated_immediate Sltiu (done_on on.Xor a b) 1 ≡ word_of_test (a == b)
unfolding done_on
none_differ a b = is_none (bit_xor a b) ∙ ap word_of_test (by_test (a == b) refl)
  where
    by_test : (c : Bool) → (a == b) ≡ c → (bit_xor a b == 0) ≡ c
    by_test true e = eq-eqb (bit_xor a b) 0 (ap (λ x. bit_xor a x) (sym (eqb-true a b e)) ∙ xor_self a)
    by_test false e = ne_eqb (bit_xor a b) 0 (λ none. cc (eq-eqb a b (same_bits a b none)))
