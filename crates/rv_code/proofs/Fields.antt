-- The fields of a word that was put together of fields, and the word of the fields of a word.
use Rattle.std.proofs.Common.{◌≡◌, ℕ, ◌+◌, ◌*◌, ◌/◌, ◌%◌, ◌<◌, ◌≤◌, ◌⊎◌, ap, ◌∙◌, arith}
use Rattle.std.proofs.lemmas.Bool.Decides.{nat_tests}
use Rattle.rv_code.specs.Fields.{opcode, rd, funct3, rs1, rs2, funct7, upper, signed_12, signed_13, signed_21, immediate, store_offset, branch_distance, jump_distance}
use Rattle.rv_code.specs.InForm.{IsRegister, IsSigned12, IsBranchDistance, IsJumpDistance}
use Rattle.rv_code.specs.Encoding.{register_word, immediate_word, store_word, branch_word, upper_word, jump_word}

-- ---- Signed numbers of 12, 13 and 21 bits

pub signed_12_of : (n : ℕ) → IsSigned12 n → signed_12 (n % 4096) ≡ n
signed_12_of n h = grind (arith, nat_tests)

pub signed_13_of : (n : ℕ) → (n < 4096) ⊎ ((4294963200 ≤ n) × (n < 4294967296)) → signed_13 (n % 8192) ≡ n
signed_13_of n h = grind (arith, nat_tests)

pub signed_21_of : (n : ℕ) → (n < 1048576) ⊎ ((4293918720 ≤ n) × (n < 4294967296)) → signed_21 (n % 2097152) ≡ n
signed_21_of n h = grind (arith, nat_tests)

pub signed_12_low : (n : ℕ) → n < 4096 → signed_12 n % 4096 ≡ n
signed_12_low n h = grind (arith, nat_tests)

pub signed_13_low : (n : ℕ) → n < 8192 → signed_13 n % 8192 ≡ n
signed_13_low n h = grind (arith, nat_tests)

pub signed_21_low : (n : ℕ) → n < 2097152 → signed_21 n % 2097152 ≡ n
signed_21_low n h = grind (arith, nat_tests)

pub signed_12_fits : (n : ℕ) → n < 4096 → IsSigned12 (signed_12 n)
signed_12_fits n h = grind (arith, nat_tests)

pub signed_13_fits : (n : ℕ) → n < 8192 → n % 2 ≡ 0 → IsBranchDistance (signed_13 n)
signed_13_fits n h e = (grind (arith, nat_tests), grind (arith, nat_tests))

pub signed_21_fits : (n : ℕ) → n < 2097152 → n % 2 ≡ 0 → IsJumpDistance (signed_21 n)
signed_21_fits n h e = (grind (arith, nat_tests), grind (arith, nat_tests))

-- ---- The fields of a word of each format

pub record RegisterFields (w g b a f r o : ℕ) : Type 0 where
  pub opcode_is : opcode w ≡ o
  pub rd_is : rd w ≡ r
  pub funct3_is : funct3 w ≡ f
  pub rs1_is : rs1 w ≡ a
  pub rs2_is : rs2 w ≡ b
  pub funct7_is : funct7 w ≡ g

pub register_fields : (g b a f r o : ℕ) → IsRegister b → IsRegister a → f < 8 → IsRegister r → o < 128 → RegisterFields (register_word g b a f r o) g b a f r o
register_fields g b a f r o hb ha hf hr ho = record { opcode_is = omega arith; rd_is = omega arith; funct3_is = omega arith; rs1_is = omega arith; rs2_is = omega arith; funct7_is = omega arith }

pub record ImmediateFields (w n a f r o : ℕ) : Type 0 where
  pub opcode_is : opcode w ≡ o
  pub rd_is : rd w ≡ r
  pub funct3_is : funct3 w ≡ f
  pub rs1_is : rs1 w ≡ a
  pub immediate_is : immediate w ≡ n

pub immediate_fields : (n a f r o : ℕ) → IsSigned12 n → IsRegister a → f < 8 → IsRegister r → o < 128 → ImmediateFields (immediate_word n a f r o) n a f r o
immediate_fields n a f r o hn ha hf hr ho =
    let top : immediate_word n a f r o / 1048576 ≡ n % 4096 = omega arith in
    record { opcode_is = omega arith; rd_is = omega arith; funct3_is = omega arith; rs1_is = omega arith; immediate_is = ap signed_12 top ∙ signed_12_of n hn }

pub record StoreFields (w n b a f : ℕ) : Type 0 where
  pub opcode_is : opcode w ≡ 35
  pub funct3_is : funct3 w ≡ f
  pub rs1_is : rs1 w ≡ a
  pub rs2_is : rs2 w ≡ b
  pub offset_is : store_offset w ≡ n

pub store_fields : (n b a f : ℕ) → IsSigned12 n → IsRegister b → IsRegister a → f < 8 → StoreFields (store_word n b a f) n b a f
store_fields n b a f hn hb ha hf =
    let w : ℕ = store_word n b a f in
    let low : w / 33554432 * 32 + w / 128 % 32 ≡ n % 4096 = omega arith in
    record { opcode_is = omega arith; funct3_is = omega arith; rs1_is = omega arith; rs2_is = omega arith; offset_is = ap signed_12 low ∙ signed_12_of n hn }

pub record BranchFields (w n b a f : ℕ) : Type 0 where
  pub opcode_is : opcode w ≡ 99
  pub funct3_is : funct3 w ≡ f
  pub rs1_is : rs1 w ≡ a
  pub rs2_is : rs2 w ≡ b
  pub distance_is : branch_distance w ≡ n

pub branch_fields : (n b a f : ℕ) → IsBranchDistance n → IsRegister b → IsRegister a → f < 8 → BranchFields (branch_word n b a f) n b a f
branch_fields n b a f hn hb ha hf =
    let even : n % 2 ≡ 0 = hn.0 in
    let w : ℕ = branch_word n b a f in
    let low : w / 2147483648 * 4096 + w / 128 % 2 * 2048 + w / 33554432 % 64 * 32 + w / 256 % 16 * 2 ≡ n % 8192 = omega arith in
    record { opcode_is = omega arith; funct3_is = omega arith; rs1_is = omega arith; rs2_is = omega arith; distance_is = ap signed_13 low ∙ signed_13_of n hn.1 }

pub record UpperFields (w n r o : ℕ) : Type 0 where
  pub opcode_is : opcode w ≡ o
  pub rd_is : rd w ≡ r
  pub upper_is : upper w ≡ n

pub upper_fields : (n r o : ℕ) → IsRegister r → o < 128 → UpperFields (upper_word n r o) n r o
upper_fields n r o hr ho = record { opcode_is = omega arith; rd_is = omega arith; upper_is = omega arith }

pub record JumpFields (w n r : ℕ) : Type 0 where
  pub opcode_is : opcode w ≡ 111
  pub rd_is : rd w ≡ r
  pub distance_is : jump_distance w ≡ n

pub jump_fields : (n r : ℕ) → IsJumpDistance n → IsRegister r → JumpFields (jump_word n r) n r
jump_fields n r hn hr =
    let even : n % 2 ≡ 0 = hn.0 in
    let w : ℕ = jump_word n r in
    let low : w / 2147483648 * 1048576 + w / 4096 % 256 * 4096 + w / 1048576 % 2 * 2048 + w / 2097152 % 1024 * 2 ≡ n % 2097152 = omega arith in
    record { opcode_is = omega arith; rd_is = omega arith; distance_is = ap signed_21 low ∙ signed_21_of n hn.1 }

-- ---- The word of the fields of a word

pub register_word_of : (w f g o : ℕ) → funct3 w ≡ f → funct7 w ≡ g → opcode w ≡ o → register_word g (rs2 w) (rs1 w) f (rd w) o ≡ w
register_word_of w f g o hf hg ho = omega arith

pub immediate_word_of : (w f o : ℕ) → w < 4294967296 → funct3 w ≡ f → opcode w ≡ o → immediate_word (immediate w) (rs1 w) f (rd w) o ≡ w
immediate_word_of w f o h hf ho =
    let n : ℕ = immediate w in
    let low : n % 4096 ≡ w / 1048576 = signed_12_low (w / 1048576) (omega arith) in
    lies n low
  where
    lies : (n : ℕ) → n % 4096 ≡ w / 1048576 → immediate_word n (rs1 w) f (rd w) o ≡ w
    lies n low = omega arith

pub store_word_of : (w f : ℕ) → w < 4294967296 → funct3 w ≡ f → opcode w ≡ 35 → store_word (store_offset w) (rs2 w) (rs1 w) f ≡ w
store_word_of w f h hf ho = lies (store_offset w) (signed_12_low (w / 33554432 * 32 + w / 128 % 32) (omega arith))
  where
    lies : (n : ℕ) → n % 4096 ≡ w / 33554432 * 32 + w / 128 % 32 → store_word n (rs2 w) (rs1 w) f ≡ w
    lies n low = omega arith

pub branch_word_of : (w f : ℕ) → w < 4294967296 → funct3 w ≡ f → opcode w ≡ 99 → branch_word (branch_distance w) (rs2 w) (rs1 w) f ≡ w
branch_word_of w f h hf ho = lies (branch_distance w) (signed_13_low (w / 2147483648 * 4096 + w / 128 % 2 * 2048 + w / 33554432 % 64 * 32 + w / 256 % 16 * 2) (omega arith))
  where
    lies : (n : ℕ) → n % 8192 ≡ w / 2147483648 * 4096 + w / 128 % 2 * 2048 + w / 33554432 % 64 * 32 + w / 256 % 16 * 2 → branch_word n (rs2 w) (rs1 w) f ≡ w
    lies n low = omega arith

pub upper_word_of : (w o : ℕ) → opcode w ≡ o → upper_word (upper w) (rd w) o ≡ w
upper_word_of w o ho = omega arith

pub jump_word_of : (w : ℕ) → w < 4294967296 → opcode w ≡ 111 → jump_word (jump_distance w) (rd w) ≡ w
jump_word_of w h ho = lies (jump_distance w) (signed_21_low (w / 2147483648 * 1048576 + w / 4096 % 256 * 4096 + w / 1048576 % 2 * 2048 + w / 2097152 % 1024 * 2) (omega arith))
  where
    lies : (n : ℕ) → n % 2097152 ≡ w / 2147483648 * 1048576 + w / 4096 % 256 * 4096 + w / 1048576 % 2 * 2048 + w / 2097152 % 1024 * 2 → jump_word n (rd w) ≡ w
    lies n low = omega arith
