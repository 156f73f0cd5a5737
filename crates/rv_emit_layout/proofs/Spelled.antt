-- The tests of instructions that words can spell answer that, and the word of one that is in form spells it.
use Rattle.std.proofs.Common.{◌≡◌, ℕ, ◌%◌, inl, inr, ◌==◌, ◌&&◌, nat_lt, nat_le, Bool, true, cond, refl, ap}
use Rattle.std.proofs.lemmas.Bool.{and_from, or_left, or_right, lt-ltb, le-leb, eq-eqb}
use Rattle.rv_code.specs.declared.instruction.ImmediateOperation.{ImmediateOperation}
use Rattle.rv_code.specs.declared.instruction.ImmediateOperation.TheVariants.{Addi, Slti, Sltiu, Xori, Ori, Andi, Slli, Srli, Srai}
use Rattle.rv_code.specs.declared.instruction.Instruction.{Instruction}
use Rattle.rv_code.specs.declared.instruction.Instruction.TheVariants.{Lui, Auipc, Jal, Jalr, Branch, Load, Store, Immediate, Register, Fence, Ecall, Ebreak}
use Rattle.rv_code.specs.Encoding.{encoded}
use Rattle.rv_code.specs.InForm.{IsBranchDistance, IsImmediateOf, IsInForm, IsJumpDistance, IsSigned12}
use Rattle.rv_emit_layout.specs.Spelling.{is_branch_distance, is_immediate_of, is_in_form, is_jump_distance, is_signed_12, spelled}

signed_is : (n : ℕ) → IsSigned12 n → is_signed_12 n ≡ true
signed_is n (inl low) = or_left (nat_lt n 2048) (nat_le 4294965248 n) (lt-ltb n 2048 low)
signed_is n (inr (high, fits)) = or_right (nat_lt n 2048) (nat_le 4294965248 n) (le-leb 4294965248 n high)

branch_is : (n : ℕ) → IsBranchDistance n → is_branch_distance n ≡ true
branch_is n (even, inl low) = and_from (n % 2 == 0) _ (eq-eqb (n % 2) 0 even) (or_left (nat_lt n 4096) (nat_le 4294963200 n) (lt-ltb n 4096 low))
branch_is n (even, inr (high, fits)) = and_from (n % 2 == 0) _ (eq-eqb (n % 2) 0 even) (or_right (nat_lt n 4096) (nat_le 4294963200 n) (le-leb 4294963200 n high))

jump_is : (n : ℕ) → IsJumpDistance n → is_jump_distance n ≡ true
jump_is n (even, inl low) = and_from (n % 2 == 0) _ (eq-eqb (n % 2) 0 even) (or_left (nat_lt n 1048576) (nat_le 4293918720 n) (lt-ltb n 1048576 low))
jump_is n (even, inr (high, fits)) = and_from (n % 2 == 0) _ (eq-eqb (n % 2) 0 even) (or_right (nat_lt n 1048576) (nat_le 4293918720 n) (le-leb 4293918720 n high))

immediate_is : (op : ImmediateOperation) (n : ℕ) → IsImmediateOf op n → is_immediate_of op n ≡ true
immediate_is Addi n form = signed_is n form
immediate_is Slti n form = signed_is n form
immediate_is Sltiu n form = signed_is n form
immediate_is Xori n form = signed_is n form
immediate_is Ori n form = signed_is n form
immediate_is Andi n form = signed_is n form
immediate_is Slli n form = lt-ltb n 32 form
immediate_is Srli n form = lt-ltb n 32 form
immediate_is Srai n form = lt-ltb n 32 form

three : (x y z : Bool) → x ≡ true → y ≡ true → z ≡ true → (x && y && z) ≡ true
three x y z a b c = and_from (x && y) z (and_from x y a b) c

-- An instruction that a word can spell passes the test.
pub form_is : (i : Instruction) → IsInForm i → is_in_form i ≡ true
unfolding is_in_form
form_is (Lui r n) (a, b) = and_from (nat_lt r 32) (nat_lt n 1048576) (lt-ltb r 32 a) (lt-ltb n 1048576 b)
form_is (Auipc r n) (a, b) = and_from (nat_lt r 32) (nat_lt n 1048576) (lt-ltb r 32 a) (lt-ltb n 1048576 b)
form_is (Jal r n) (a, b) = and_from (nat_lt r 32) (is_jump_distance n) (lt-ltb r 32 a) (jump_is n b)
form_is (Jalr r x n) (a, b, c) = three (nat_lt r 32) (nat_lt x 32) (is_signed_12 n) (lt-ltb r 32 a) (lt-ltb x 32 b) (signed_is n c)
form_is (Branch op x y n) (a, b, c) = three (nat_lt x 32) (nat_lt y 32) (is_branch_distance n) (lt-ltb x 32 a) (lt-ltb y 32 b) (branch_is n c)
form_is (Load op r x n) (a, b, c) = three (nat_lt r 32) (nat_lt x 32) (is_signed_12 n) (lt-ltb r 32 a) (lt-ltb x 32 b) (signed_is n c)
form_is (Store op y x n) (a, b, c) = three (nat_lt y 32) (nat_lt x 32) (is_signed_12 n) (lt-ltb y 32 a) (lt-ltb x 32 b) (signed_is n c)
form_is (Immediate op r x n) (a, b, c) = three (nat_lt r 32) (nat_lt x 32) (is_immediate_of op n) (lt-ltb r 32 a) (lt-ltb x 32 b) (immediate_is op n c)
form_is (Register op r x y) (a, b, c) = three (nat_lt r 32) (nat_lt x 32) (nat_lt y 32) (lt-ltb r 32 a) (lt-ltb x 32 b) (lt-ltb y 32 c)
form_is (Fence r x n) (a, b, c) = three (nat_lt r 32) (nat_lt x 32) (is_signed_12 n) (lt-ltb r 32 a) (lt-ltb x 32 b) (signed_is n c)
form_is Ecall form = refl
form_is Ebreak form = refl

-- Its word spells it.
pub spelled_is : (i : Instruction) → IsInForm i → spelled i ≡ encoded i
spelled_is i form = ap (λ b. cond b (encoded i) 19) (form_is i form)
