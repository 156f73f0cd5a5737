-- Encoding and decoding undo each other.
use Rattle.std.proofs.Common.{◌≡◌, ℕ, ◌+◌, ◌*◌, ◌/◌, ◌%◌, ◌<◌, refl, sym, subst, arith, Bool, true, false, Option, Some, None, IfSome, option_map, nat_eq, cond}
use Rattle.std.proofs.Common.{lit<}
use Rattle.std.proofs.lemmas.Bool.{eqb-true}
use Rattle.rv_code.specs.declared.instruction.BranchOperation.{BranchOperation}
use Rattle.rv_code.specs.declared.instruction.BranchOperation.TheVariants.{Beq, Bne, Blt, Bge, Bltu, Bgeu}
use Rattle.rv_code.specs.declared.instruction.LoadOperation.{LoadOperation}
use Rattle.rv_code.specs.declared.instruction.LoadOperation.TheVariants.{Lb, Lh, Lw, Lbu, Lhu}
use Rattle.rv_code.specs.declared.instruction.StoreOperation.{StoreOperation}
use Rattle.rv_code.specs.declared.instruction.StoreOperation.TheVariants.{Sb, Sh, Sw}
use Rattle.rv_code.specs.declared.instruction.ImmediateOperation.{ImmediateOperation}
use Rattle.rv_code.specs.declared.instruction.ImmediateOperation.TheVariants.{Addi, Slti, Sltiu, Xori, Ori, Andi, Slli, Srli, Srai}
use Rattle.rv_code.specs.declared.instruction.RegisterOperation.{RegisterOperation}
use Rattle.rv_code.specs.declared.instruction.RegisterOperation.TheVariants.{Add, Sub, Sll, Slt, Sltu, Xor, Srl, Sra, Or, And, Mul, Mulh, Mulhsu, Mulhu, Div, Divu, Rem, Remu}
use Rattle.rv_code.specs.declared.instruction.Instruction.{Instruction}
use Rattle.rv_code.specs.declared.instruction.Instruction.TheVariants.{Lui, Auipc, Jal, Jalr, Branch, Load, Store, Immediate, Register, Fence, Ecall, Ebreak}
use Rattle.rv_code.specs.Fields.{opcode, rd, funct3, rs1, rs2, funct7, upper, immediate, store_offset, branch_distance, jump_distance}
use Rattle.rv_code.specs.Operations.{branch_funct3, branch_operation, load_funct3, load_operation, store_funct3, store_operation, immediate_operation, register_funct3, register_funct7, register_operation}
use Rattle.rv_code.specs.Encoding.{immediate_word, encoded}
use Rattle.rv_code.specs.Decoding.{immediate_of, decoded}
use Rattle.rv_code.specs.InForm.{IsRegister, IsSigned12, IsBranchDistance, IsJumpDistance, IsInForm}
use Rattle.rv_code.proofs.Fields.{RegisterFields, register_fields, ImmediateFields, immediate_fields, StoreFields, store_fields, BranchFields, branch_fields, UpperFields, upper_fields, JumpFields, jump_fields, register_word_of, immediate_word_of, store_word_of, branch_word_of, upper_word_of, jump_word_of, signed_12_fits, signed_13_fits, signed_21_fits}

-- ---- The instruction of a word whose fields are known

lui_of : (w n r : ℕ) → UpperFields w n r 55 → decoded w ≡ Some (Lui r n)
unfolding decoded
lui_of w n r h = simp (h.opcode_is, h.rd_is, h.upper_is)

auipc_of : (w n r : ℕ) → UpperFields w n r 23 → decoded w ≡ Some (Auipc r n)
unfolding decoded
auipc_of w n r h = simp (h.opcode_is, h.rd_is, h.upper_is)

jal_of : (w n r : ℕ) → JumpFields w n r → decoded w ≡ Some (Jal r n)
unfolding decoded
jal_of w n r h = simp (h.opcode_is, h.rd_is, h.distance_is)

jalr_of : (w n a r : ℕ) → ImmediateFields w n a 0 r 103 → decoded w ≡ Some (Jalr r a n)
unfolding decoded
jalr_of w n a r h = simp (h.opcode_is, h.funct3_is, h.rd_is, h.rs1_is, h.immediate_is)

fence_of : (w n a r : ℕ) → ImmediateFields w n a 0 r 15 → decoded w ≡ Some (Fence r a n)
unfolding decoded
fence_of w n a r h = simp (h.opcode_is, h.funct3_is, h.rd_is, h.rs1_is, h.immediate_is)

branch_of : (op : BranchOperation) (w n b a : ℕ) → BranchFields w n b a (branch_funct3 op) → decoded w ≡ Some (Branch op a b n)
unfolding decoded
branch_of Beq w n b a h = simp (h.opcode_is, h.funct3_is, h.rs1_is, h.rs2_is, h.distance_is)
branch_of Bne w n b a h = simp (h.opcode_is, h.funct3_is, h.rs1_is, h.rs2_is, h.distance_is)
branch_of Blt w n b a h = simp (h.opcode_is, h.funct3_is, h.rs1_is, h.rs2_is, h.distance_is)
branch_of Bge w n b a h = simp (h.opcode_is, h.funct3_is, h.rs1_is, h.rs2_is, h.distance_is)
branch_of Bltu w n b a h = simp (h.opcode_is, h.funct3_is, h.rs1_is, h.rs2_is, h.distance_is)
branch_of Bgeu w n b a h = simp (h.opcode_is, h.funct3_is, h.rs1_is, h.rs2_is, h.distance_is)

load_of : (op : LoadOperation) (w n a r : ℕ) → ImmediateFields w n a (load_funct3 op) r 3 → decoded w ≡ Some (Load op r a n)
unfolding decoded
load_of Lb w n a r h = simp (h.opcode_is, h.funct3_is, h.rd_is, h.rs1_is, h.immediate_is)
load_of Lh w n a r h = simp (h.opcode_is, h.funct3_is, h.rd_is, h.rs1_is, h.immediate_is)
load_of Lw w n a r h = simp (h.opcode_is, h.funct3_is, h.rd_is, h.rs1_is, h.immediate_is)
load_of Lbu w n a r h = simp (h.opcode_is, h.funct3_is, h.rd_is, h.rs1_is, h.immediate_is)
load_of Lhu w n a r h = simp (h.opcode_is, h.funct3_is, h.rd_is, h.rs1_is, h.immediate_is)

store_of : (op : StoreOperation) (w n b a : ℕ) → StoreFields w n b a (store_funct3 op) → decoded w ≡ Some (Store op b a n)
unfolding decoded
store_of Sb w n b a h = simp (h.opcode_is, h.funct3_is, h.rs1_is, h.rs2_is, h.offset_is)
store_of Sh w n b a h = simp (h.opcode_is, h.funct3_is, h.rs1_is, h.rs2_is, h.offset_is)
store_of Sw w n b a h = simp (h.opcode_is, h.funct3_is, h.rs1_is, h.rs2_is, h.offset_is)

register_of : (op : RegisterOperation) (w b a r : ℕ) → RegisterFields w (register_funct7 op) b a (register_funct3 op) r 51 → decoded w ≡ Some (Register op r a b)
unfolding decoded
register_of Add w b a r h = simp (h.opcode_is, h.funct3_is, h.funct7_is, h.rd_is, h.rs1_is, h.rs2_is)
register_of Sub w b a r h = simp (h.opcode_is, h.funct3_is, h.funct7_is, h.rd_is, h.rs1_is, h.rs2_is)
register_of Sll w b a r h = simp (h.opcode_is, h.funct3_is, h.funct7_is, h.rd_is, h.rs1_is, h.rs2_is)
register_of Slt w b a r h = simp (h.opcode_is, h.funct3_is, h.funct7_is, h.rd_is, h.rs1_is, h.rs2_is)
register_of Sltu w b a r h = simp (h.opcode_is, h.funct3_is, h.funct7_is, h.rd_is, h.rs1_is, h.rs2_is)
register_of Xor w b a r h = simp (h.opcode_is, h.funct3_is, h.funct7_is, h.rd_is, h.rs1_is, h.rs2_is)
register_of Srl w b a r h = simp (h.opcode_is, h.funct3_is, h.funct7_is, h.rd_is, h.rs1_is, h.rs2_is)
register_of Sra w b a r h = simp (h.opcode_is, h.funct3_is, h.funct7_is, h.rd_is, h.rs1_is, h.rs2_is)
register_of Or w b a r h = simp (h.opcode_is, h.funct3_is, h.funct7_is, h.rd_is, h.rs1_is, h.rs2_is)
register_of And w b a r h = simp (h.opcode_is, h.funct3_is, h.funct7_is, h.rd_is, h.rs1_is, h.rs2_is)
register_of Mul w b a r h = simp (h.opcode_is, h.funct3_is, h.funct7_is, h.rd_is, h.rs1_is, h.rs2_is)
register_of Mulh w b a r h = simp (h.opcode_is, h.funct3_is, h.funct7_is, h.rd_is, h.rs1_is, h.rs2_is)
register_of Mulhsu w b a r h = simp (h.opcode_is, h.funct3_is, h.funct7_is, h.rd_is, h.rs1_is, h.rs2_is)
register_of Mulhu w b a r h = simp (h.opcode_is, h.funct3_is, h.funct7_is, h.rd_is, h.rs1_is, h.rs2_is)
register_of Div w b a r h = simp (h.opcode_is, h.funct3_is, h.funct7_is, h.rd_is, h.rs1_is, h.rs2_is)
register_of Divu w b a r h = simp (h.opcode_is, h.funct3_is, h.funct7_is, h.rd_is, h.rs1_is, h.rs2_is)
register_of Rem w b a r h = simp (h.opcode_is, h.funct3_is, h.funct7_is, h.rd_is, h.rs1_is, h.rs2_is)
register_of Remu w b a r h = simp (h.opcode_is, h.funct3_is, h.funct7_is, h.rd_is, h.rs1_is, h.rs2_is)

addi_of : (w n a r : ℕ) → ImmediateFields w n a 0 r 19 → decoded w ≡ Some (Immediate Addi r a n)
unfolding decoded
addi_of w n a r h = simp (h.opcode_is, h.funct3_is, h.rd_is, h.rs1_is, h.immediate_is)

slti_of : (w n a r : ℕ) → ImmediateFields w n a 2 r 19 → decoded w ≡ Some (Immediate Slti r a n)
unfolding decoded
slti_of w n a r h = simp (h.opcode_is, h.funct3_is, h.rd_is, h.rs1_is, h.immediate_is)

sltiu_of : (w n a r : ℕ) → ImmediateFields w n a 3 r 19 → decoded w ≡ Some (Immediate Sltiu r a n)
unfolding decoded
sltiu_of w n a r h = simp (h.opcode_is, h.funct3_is, h.rd_is, h.rs1_is, h.immediate_is)

xori_of : (w n a r : ℕ) → ImmediateFields w n a 4 r 19 → decoded w ≡ Some (Immediate Xori r a n)
unfolding decoded
xori_of w n a r h = simp (h.opcode_is, h.funct3_is, h.rd_is, h.rs1_is, h.immediate_is)

ori_of : (w n a r : ℕ) → ImmediateFields w n a 6 r 19 → decoded w ≡ Some (Immediate Ori r a n)
unfolding decoded
ori_of w n a r h = simp (h.opcode_is, h.funct3_is, h.rd_is, h.rs1_is, h.immediate_is)

andi_of : (w n a r : ℕ) → ImmediateFields w n a 7 r 19 → decoded w ≡ Some (Immediate Andi r a n)
unfolding decoded
andi_of w n a r h = simp (h.opcode_is, h.funct3_is, h.rd_is, h.rs1_is, h.immediate_is)

slli_of : (w n a r : ℕ) → RegisterFields w 0 n a 1 r 19 → decoded w ≡ Some (Immediate Slli r a n)
unfolding decoded
slli_of w n a r h = simp (h.opcode_is, h.funct3_is, h.funct7_is, h.rd_is, h.rs1_is, h.rs2_is)

srli_of : (w n a r : ℕ) → RegisterFields w 0 n a 5 r 19 → decoded w ≡ Some (Immediate Srli r a n)
unfolding decoded
srli_of w n a r h = simp (h.opcode_is, h.funct3_is, h.funct7_is, h.rd_is, h.rs1_is, h.rs2_is)

srai_of : (w n a r : ℕ) → RegisterFields w 32 n a 5 r 19 → decoded w ≡ Some (Immediate Srai r a n)
unfolding decoded
srai_of w n a r h = simp (h.opcode_is, h.funct3_is, h.funct7_is, h.rd_is, h.rs1_is, h.rs2_is)

-- ---- Decoding undoes encoding

branch_small : (op : BranchOperation) → branch_funct3 op < 8
branch_small Beq = lit< tt
branch_small Bne = lit< tt
branch_small Blt = lit< tt
branch_small Bge = lit< tt
branch_small Bltu = lit< tt
branch_small Bgeu = lit< tt

load_small : (op : LoadOperation) → load_funct3 op < 8
load_small Lb = lit< tt
load_small Lh = lit< tt
load_small Lw = lit< tt
load_small Lbu = lit< tt
load_small Lhu = lit< tt

store_small : (op : StoreOperation) → store_funct3 op < 8
store_small Sb = lit< tt
store_small Sh = lit< tt
store_small Sw = lit< tt

register_small : (op : RegisterOperation) → register_funct3 op < 8
register_small Add = lit< tt
register_small Sub = lit< tt
register_small Sll = lit< tt
register_small Slt = lit< tt
register_small Sltu = lit< tt
register_small Xor = lit< tt
register_small Srl = lit< tt
register_small Sra = lit< tt
register_small Or = lit< tt
register_small And = lit< tt
register_small Mul = lit< tt
register_small Mulh = lit< tt
register_small Mulhsu = lit< tt
register_small Mulhu = lit< tt
register_small Div = lit< tt
register_small Divu = lit< tt
register_small Rem = lit< tt
register_small Remu = lit< tt

immediate_decoded : (op : ImmediateOperation) (r a n : ℕ) → IsInForm (Immediate op r a n) → decoded (encoded (Immediate op r a n)) ≡ Some (Immediate op r a n)
unfolding encoded
immediate_decoded Addi r a n h = addi_of _ n a r (immediate_fields n a 0 r 19 h.2 h.1 (lit< tt) h.0 (lit< tt))
immediate_decoded Slti r a n h = slti_of _ n a r (immediate_fields n a 2 r 19 h.2 h.1 (lit< tt) h.0 (lit< tt))
immediate_decoded Sltiu r a n h = sltiu_of _ n a r (immediate_fields n a 3 r 19 h.2 h.1 (lit< tt) h.0 (lit< tt))
immediate_decoded Xori r a n h = xori_of _ n a r (immediate_fields n a 4 r 19 h.2 h.1 (lit< tt) h.0 (lit< tt))
immediate_decoded Ori r a n h = ori_of _ n a r (immediate_fields n a 6 r 19 h.2 h.1 (lit< tt) h.0 (lit< tt))
immediate_decoded Andi r a n h = andi_of _ n a r (immediate_fields n a 7 r 19 h.2 h.1 (lit< tt) h.0 (lit< tt))
immediate_decoded Slli r a n h = slli_of _ n a r (register_fields 0 n a 1 r 19 h.2 h.1 (lit< tt) h.0 (lit< tt))
immediate_decoded Srli r a n h = srli_of _ n a r (register_fields 0 n a 5 r 19 h.2 h.1 (lit< tt) h.0 (lit< tt))
immediate_decoded Srai r a n h = srai_of _ n a r (register_fields 32 n a 5 r 19 h.2 h.1 (lit< tt) h.0 (lit< tt))

ecall_decoded : decoded (encoded Ecall) ≡ Some Ecall
unfolding encoded decoded
ecall_decoded = refl

ebreak_decoded : decoded (encoded Ebreak) ≡ Some Ebreak
unfolding encoded decoded
ebreak_decoded = refl

-- The word of an instruction spells that instruction.
pub decoded_encoded : (i : Instruction) → IsInForm i → decoded (encoded i) ≡ Some i
unfolding encoded
decoded_encoded (Lui r n) h = lui_of _ n r (upper_fields n r 55 h.0 (lit< tt))
decoded_encoded (Auipc r n) h = auipc_of _ n r (upper_fields n r 23 h.0 (lit< tt))
decoded_encoded (Jal r n) h = jal_of _ n r (jump_fields n r h.1 h.0)
decoded_encoded (Jalr r a n) h = jalr_of _ n a r (immediate_fields n a 0 r 103 h.2 h.1 (lit< tt) h.0 (lit< tt))
decoded_encoded (Branch op a b n) h = branch_of op _ n b a (branch_fields n b a (branch_funct3 op) h.2 h.1 h.0 (branch_small op))
decoded_encoded (Load op r a n) h = load_of op _ n a r (immediate_fields n a (load_funct3 op) r 3 h.2 h.1 (load_small op) h.0 (lit< tt))
decoded_encoded (Store op b a n) h = store_of op _ n b a (store_fields n b a (store_funct3 op) h.2 h.0 h.1 (store_small op))
decoded_encoded (Immediate op r a n) h = immediate_decoded op r a n h
decoded_encoded (Register op r a b) h = register_of op _ b a r (register_fields (register_funct7 op) b a (register_funct3 op) r 51 h.2 h.1 (register_small op) h.0 (lit< tt))
decoded_encoded (Fence r a n) h = fence_of _ n a r (immediate_fields n a 0 r 15 h.2 h.1 (lit< tt) h.0 (lit< tt))
decoded_encoded Ecall h = ecall_decoded
decoded_encoded Ebreak h = ebreak_decoded

-- ---- Encoding undoes decoding

-- What holds of both ends of a test holds of what it chooses.
either : {A : Type 0} (P : Option A → Type 0) (n k : ℕ) (x y : Option A) → (n ≡ k → P x) → P y → P (cond (nat_eq n k) x y)
either P n k x y hit miss = by_test (nat_eq n k) refl
  where
    by_test : (b : Bool) → nat_eq n k ≡ b → P (cond b x y)
    by_test true e = hit (eqb-true n k e)
    by_test false e = miss

-- What follows from a fact of a value follows from it after a map.
if_mapped : {A : Type 0} {B : Type 0} (P : A → Type 0) (Q : B → Type 0) (g : A → B) (o : Option A) → IfSome o P → ((x : A) → P x → Q (g x)) → IfSome (option_map g o) Q
if_mapped P Q g None h f = tt
if_mapped P Q g (Some x) h f = f x h

branch_spelled : (f : ℕ) → IfSome (branch_operation f) (λ op. branch_funct3 op ≡ f)
branch_spelled f =
    let P : Option BranchOperation → Type 0 = λ o. IfSome o (λ op. branch_funct3 op ≡ f) in
    either P f 0 _ _ sym (either P f 1 _ _ sym (either P f 4 _ _ sym (either P f 5 _ _ sym (either P f 6 _ _ sym (either P f 7 _ _ sym tt)))))

load_spelled : (f : ℕ) → IfSome (load_operation f) (λ op. load_funct3 op ≡ f)
load_spelled f =
    let P : Option LoadOperation → Type 0 = λ o. IfSome o (λ op. load_funct3 op ≡ f) in
    either P f 0 _ _ sym (either P f 1 _ _ sym (either P f 2 _ _ sym (either P f 4 _ _ sym (either P f 5 _ _ sym tt))))

store_spelled : (f : ℕ) → IfSome (store_operation f) (λ op. store_funct3 op ≡ f)
store_spelled f =
    let P : Option StoreOperation → Type 0 = λ o. IfSome o (λ op. store_funct3 op ≡ f) in
    either P f 0 _ _ sym (either P f 1 _ _ sym (either P f 2 _ _ sym tt))

register_spelled : (f g : ℕ) → IfSome (register_operation f g) (λ op. (register_funct3 op ≡ f) × (register_funct7 op ≡ g))
register_spelled f g =
    let P : Option RegisterOperation → Type 0 = λ o. IfSome o (λ op. (register_funct3 op ≡ f) × (register_funct7 op ≡ g)) in
    either P g 0 _ _ (λ z.
    let t : 0 ≡ g = sym z in
    either P f 0 _ _ (λ e. (sym e, t)) (either P f 1 _ _ (λ e. (sym e, t)) (either P f 2 _ _ (λ e. (sym e, t)) (either P f 3 _ _ (λ e. (sym e, t)) (either P f 4 _ _ (λ e. (sym e, t)) (either P f 5 _ _ (λ e. (sym e, t)) (either P f 6 _ _ (λ e. (sym e, t)) (either P f 7 _ _ (λ e. (sym e, t)) tt))))))))
    (either P g 32 _ _ (λ z.
    let t : 32 ≡ g = sym z in
    either P f 0 _ _ (λ e. (sym e, t)) (either P f 5 _ _ (λ e. (sym e, t)) tt))
    (either P g 1 _ _ (λ z.
    let t : 1 ≡ g = sym z in
    either P f 0 _ _ (λ e. (sym e, t)) (either P f 1 _ _ (λ e. (sym e, t)) (either P f 2 _ _ (λ e. (sym e, t)) (either P f 3 _ _ (λ e. (sym e, t)) (either P f 4 _ _ (λ e. (sym e, t)) (either P f 5 _ _ (λ e. (sym e, t)) (either P f 6 _ _ (λ e. (sym e, t)) (either P f 7 _ _ (λ e. (sym e, t)) tt))))))))
    tt))

-- An instruction that a word can spell, and that this word spells.
pub record Spells (w : ℕ) (i : Instruction) : Type 0 where
  pub spelled : encoded i ≡ w
  pub in_form : IsInForm i

rd_fits : (w : ℕ) → IsRegister (rd w)
rd_fits w = omega arith

rs1_fits : (w : ℕ) → IsRegister (rs1 w)
rs1_fits w = omega arith

rs2_fits : (w : ℕ) → IsRegister (rs2 w)
rs2_fits w = omega arith

immediate_fits : (w : ℕ) → w < 4294967296 → IsSigned12 (immediate w)
immediate_fits w h = signed_12_fits (w / 1048576) (omega arith)

offset_fits : (w : ℕ) → w < 4294967296 → IsSigned12 (store_offset w)
offset_fits w h = signed_12_fits (w / 33554432 * 32 + w / 128 % 32) (omega arith)

branch_distance_fits : (w : ℕ) → w < 4294967296 → IsBranchDistance (branch_distance w)
branch_distance_fits w h = signed_13_fits (w / 2147483648 * 4096 + w / 128 % 2 * 2048 + w / 33554432 % 64 * 32 + w / 256 % 16 * 2) (omega arith) (omega arith)

jump_distance_fits : (w : ℕ) → w < 4294967296 → IsJumpDistance (jump_distance w)
jump_distance_fits w h = signed_21_fits (w / 2147483648 * 1048576 + w / 4096 % 256 * 4096 + w / 1048576 % 2 * 2048 + w / 2097152 % 1024 * 2) (omega arith) (omega arith)

branch_spells : (w : ℕ) → w < 4294967296 → opcode w ≡ 99 → (op : BranchOperation) → branch_funct3 op ≡ funct3 w → Spells w (Branch op (rs1 w) (rs2 w) (branch_distance w))
unfolding encoded
branch_spells w h o op f = record { spelled = branch_word_of w (branch_funct3 op) h (sym f) o; in_form = (rs1_fits w, rs2_fits w, branch_distance_fits w h) }

load_spells : (w : ℕ) → w < 4294967296 → opcode w ≡ 3 → (op : LoadOperation) → load_funct3 op ≡ funct3 w → Spells w (Load op (rd w) (rs1 w) (immediate w))
unfolding encoded
load_spells w h o op f = record { spelled = immediate_word_of w (load_funct3 op) 3 h (sym f) o; in_form = (rd_fits w, rs1_fits w, immediate_fits w h) }

store_spells : (w : ℕ) → w < 4294967296 → opcode w ≡ 35 → (op : StoreOperation) → store_funct3 op ≡ funct3 w → Spells w (Store op (rs2 w) (rs1 w) (store_offset w))
unfolding encoded
store_spells w h o op f = record { spelled = store_word_of w (store_funct3 op) h (sym f) o; in_form = (rs2_fits w, rs1_fits w, offset_fits w h) }

register_spells : (w : ℕ) → opcode w ≡ 51 → (op : RegisterOperation) → (register_funct3 op ≡ funct3 w) × (register_funct7 op ≡ funct7 w) → Spells w (Register op (rd w) (rs1 w) (rs2 w))
unfolding encoded
register_spells w o op f = record { spelled = register_word_of w (register_funct3 op) (register_funct7 op) 51 (sym f.0) (sym f.1) o; in_form = (rd_fits w, rs1_fits w, rs2_fits w) }

immediate_spells : (w : ℕ) → w < 4294967296 → opcode w ≡ 19 → IfSome (option_map (λ op. Immediate op (rd w) (rs1 w) (immediate_of op w)) (immediate_operation (funct3 w) (funct7 w))) (Spells w)
unfolding encoded
immediate_spells w h o =
    let P : Option ImmediateOperation → Type 0 = λ p. IfSome (option_map (λ op. Immediate op (rd w) (rs1 w) (immediate_of op w)) p) (Spells w) in
    let f : ℕ = funct3 w in
    let g : ℕ = funct7 w in
    let plain : (k : ℕ) → funct3 w ≡ k → immediate_word (immediate w) (rs1 w) k (rd w) 19 ≡ w = λ k e. immediate_word_of w k 19 h e o in
    either P f 0 _ _ (λ e. record { spelled = plain 0 e; in_form = (rd_fits w, rs1_fits w, immediate_fits w h) })
    (either P f 2 _ _ (λ e. record { spelled = plain 2 e; in_form = (rd_fits w, rs1_fits w, immediate_fits w h) })
    (either P f 3 _ _ (λ e. record { spelled = plain 3 e; in_form = (rd_fits w, rs1_fits w, immediate_fits w h) })
    (either P f 4 _ _ (λ e. record { spelled = plain 4 e; in_form = (rd_fits w, rs1_fits w, immediate_fits w h) })
    (either P f 6 _ _ (λ e. record { spelled = plain 6 e; in_form = (rd_fits w, rs1_fits w, immediate_fits w h) })
    (either P f 7 _ _ (λ e. record { spelled = plain 7 e; in_form = (rd_fits w, rs1_fits w, immediate_fits w h) })
    (either P f 1 _ _ (λ e. either P g 0 _ _ (λ t. record { spelled = register_word_of w 1 0 19 e t o; in_form = (rd_fits w, rs1_fits w, rs2_fits w) }) tt)
    (either P f 5 _ _ (λ e. either P g 0 _ _ (λ t. record { spelled = register_word_of w 5 0 19 e t o; in_form = (rd_fits w, rs1_fits w, rs2_fits w) })
    (either P g 32 _ _ (λ t. record { spelled = register_word_of w 5 32 19 e t o; in_form = (rd_fits w, rs1_fits w, rs2_fits w) }) tt))
    tt)))))))

lui_spells : (w : ℕ) → w < 4294967296 → opcode w ≡ 55 → Spells w (Lui (rd w) (upper w))
unfolding encoded
lui_spells w h o = record { spelled = upper_word_of w 55 o; in_form = (rd_fits w, omega arith) }

auipc_spells : (w : ℕ) → w < 4294967296 → opcode w ≡ 23 → Spells w (Auipc (rd w) (upper w))
unfolding encoded
auipc_spells w h o = record { spelled = upper_word_of w 23 o; in_form = (rd_fits w, omega arith) }

jal_spells : (w : ℕ) → w < 4294967296 → opcode w ≡ 111 → Spells w (Jal (rd w) (jump_distance w))
unfolding encoded
jal_spells w h o = record { spelled = jump_word_of w h o; in_form = (rd_fits w, jump_distance_fits w h) }

jalr_spells : (w : ℕ) → w < 4294967296 → opcode w ≡ 103 → funct3 w ≡ 0 → Spells w (Jalr (rd w) (rs1 w) (immediate w))
unfolding encoded
jalr_spells w h o f = record { spelled = immediate_word_of w 0 103 h f o; in_form = (rd_fits w, rs1_fits w, immediate_fits w h) }

fence_spells : (w : ℕ) → w < 4294967296 → opcode w ≡ 15 → funct3 w ≡ 0 → Spells w (Fence (rd w) (rs1 w) (immediate w))
unfolding encoded
fence_spells w h o f = record { spelled = immediate_word_of w 0 15 h f o; in_form = (rd_fits w, rs1_fits w, immediate_fits w h) }

ecall_spells : (w : ℕ) → w ≡ 115 → Spells w Ecall
unfolding encoded
ecall_spells w e = record { spelled = sym e; in_form = tt }

ebreak_spells : (w : ℕ) → w ≡ 1048691 → Spells w Ebreak
unfolding encoded
ebreak_spells w e = record { spelled = sym e; in_form = tt }

-- The instruction that a word spells is one that a word can spell, and its word is that word.
pub decoded_spells : (w : ℕ) → w < 4294967296 → IfSome (decoded w) (Spells w)
unfolding decoded
decoded_spells w h =
    let P : Option Instruction → Type 0 = λ o. IfSome o (Spells w) in
    let c : ℕ = opcode w in
    either P c 55 _ _ (lui_spells w h)
    (either P c 23 _ _ (auipc_spells w h)
    (either P c 111 _ _ (jal_spells w h)
    (either P c 103 _ _ (λ o. either P (funct3 w) 0 _ _ (jalr_spells w h o) tt)
    (either P c 99 _ _ (λ o. if_mapped _ (Spells w) _ (branch_operation (funct3 w)) (branch_spelled (funct3 w)) (branch_spells w h o))
    (either P c 3 _ _ (λ o. if_mapped _ (Spells w) _ (load_operation (funct3 w)) (load_spelled (funct3 w)) (load_spells w h o))
    (either P c 35 _ _ (λ o. if_mapped _ (Spells w) _ (store_operation (funct3 w)) (store_spelled (funct3 w)) (store_spells w h o))
    (either P c 19 _ _ (immediate_spells w h)
    (either P c 51 _ _ (λ o. if_mapped _ (Spells w) _ (register_operation (funct3 w) (funct7 w)) (register_spelled (funct3 w) (funct7 w)) (register_spells w o))
    (either P c 15 _ _ (λ o. either P (funct3 w) 0 _ _ (fence_spells w h o) tt)
    (either P w 115 _ _ (ecall_spells w)
    (either P w 1048691 _ _ (ebreak_spells w)
    tt)))))))))))

-- The word of the instruction that a word spells is that word.
pub encoded_decoded : (w : ℕ) (i : Instruction) → w < 4294967296 → decoded w ≡ Some i → encoded i ≡ w
encoded_decoded w i h e = let s : Spells w i = subst (λ o. IfSome o (Spells w)) e (decoded_spells w h) in s.spelled

-- A word spells only instructions that a word can spell.
pub decoded_in_form : (w : ℕ) (i : Instruction) → w < 4294967296 → decoded w ≡ Some i → IsInForm i
decoded_in_form w i h e = let s : Spells w i = subst (λ o. IfSome o (Spells w)) e (decoded_spells w h) in s.in_form

-- The same of the answer of a reader of words.
pub answer_in_form : (w : ℕ) (o : Option Instruction) → w < 4294967296 → o ≡ decoded w → IfSome o IsInForm
answer_in_form w None h e = tt
answer_in_form w (Some i) h e = decoded_in_form w i h (sym e)

pub answer_spelled : (w : ℕ) (o : Option Instruction) → w < 4294967296 → o ≡ decoded w → IfSome o (λ i. encoded i ≡ w)
answer_spelled w None h e = tt
answer_spelled w (Some i) h e = encoded_decoded w i h (sym e)
