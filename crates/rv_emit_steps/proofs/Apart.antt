-- What stands in memory after bytes were written: these, and all others as they were.
use Rattle.std.proofs.Common.{◌≡◌, ℕ, zero, suc, ◌+◌, ◌-◌, ◌*◌, ◌/◌, ◌%◌, ◌<◌, ◌≤◌, ◌⊎◌, ⊎_elim, inl, inr, sym, ap, ◌∙◌, arith, Bool, true, false, cond}
use Rattle.std.specs.Prelude.{nat_lt}
use Rattle.std.proofs.Math.Path.{fun_ext}
use Rattle.std.proofs.lemmas.Bool.{le-ltb, lt-ltb, cases_lt}
use Rattle.rv_code.specs.declared.instruction.LoadOperation.{LoadOperation}
use Rattle.rv_code.specs.declared.instruction.LoadOperation.TheVariants.{Lb, Lh, Lw, Lbu, Lhu}
use Rattle.rv_emit_steps.specs.Holding.{byte_of, with_bytes, half_at, word_at, loaded_at}

-- ---- Single bytes

-- A byte that was written.
pub byte_within : (n a v : ℕ) (memory : ℕ → ℕ) (b : ℕ) → a ≤ b → b < a + n → with_bytes n a v memory b ≡ byte_of v (b - a)
byte_within n a v memory b low high =
    let b1 : nat_lt b a ≡ false = le-ltb b a low in
    let b2 : nat_lt b (a + n) ≡ true = lt-ltb b (a + n) high in
    simp (b1, b2)

-- One that was not.
pub byte_outside : (n a v : ℕ) (memory : ℕ → ℕ) (b : ℕ) → (b < a) ⊎ (a + n ≤ b) → with_bytes n a v memory b ≡ memory b
byte_outside n a v memory b (inl low) =
    let b1 : nat_lt b a ≡ true = lt-ltb b a low in
    simp b1
byte_outside n a v memory b (inr high) =
    let b1 : nat_lt b a ≡ false = le-ltb b a (omega arith) in
    let b2 : nat_lt b (a + n) ≡ false = le-ltb b (a + n) high in
    simp (b1, b2)

-- Memory that has the bytes of a value at so many addresses, and else what it had, is memory with these bytes written.
pub written_memory : (n a v : ℕ) (before after : ℕ → ℕ) → ((b : ℕ) → a ≤ b → b < a + n → after b ≡ byte_of v (b - a)) → ((b : ℕ) → (b < a) ⊎ (a + n ≤ b) → after b ≡ before b) → after ≡ with_bytes n a v before
written_memory n a v before after within outside = fun_ext (λ b. ⊎_elim
    (λ (low : b < a). outside b (inl low) ∙ sym (byte_outside n a v before b (inl low)))
    (λ (high : a ≤ b). ⊎_elim
    (λ (near : b < a + n). within b high near ∙ sym (byte_within n a v before b high near))
    (λ (far : a + n ≤ b). outside b (inr far) ∙ sym (byte_outside n a v before b (inr far)))
    (cases_lt b (a + n)))
    (cases_lt b a))

-- ---- What a load gets where a value was stored

pub byte_stored : (a v : ℕ) (memory : ℕ → ℕ) → with_bytes 1 a v memory a ≡ v % 256
byte_stored a v memory =
    let zero_away : a - a ≡ 0 = omega arith in
    byte_within 1 a v memory a (omega arith) (omega arith) ∙ ap (byte_of v) zero_away

pub half_stored : (a v : ℕ) (memory : ℕ → ℕ) → half_at (with_bytes 2 a v memory) a ≡ v % 65536
half_stored a v memory =
    let e0 : a - a ≡ 0 = omega arith in
    let e1 : a + 1 - a ≡ 1 = omega arith in
    let b0 : with_bytes 2 a v memory a ≡ v % 256 = byte_within 2 a v memory a (omega arith) (omega arith) ∙ ap (byte_of v) e0 in
    let b1 : with_bytes 2 a v memory (a + 1) ≡ v / 256 % 256 = byte_within 2 a v memory (a + 1) (omega arith) (omega arith) ∙ ap (byte_of v) e1 in
    let sum : v % 256 + v / 256 % 256 * 256 ≡ v % 65536 = omega arith in
    ap (λ x. x + with_bytes 2 a v memory (a + 1) * 256) b0 ∙ ap (λ y. v % 256 + y * 256) b1 ∙ sum

pub word_stored : (a v : ℕ) (memory : ℕ → ℕ) → v < 4294967296 → word_at (with_bytes 4 a v memory) a ≡ v
word_stored a v memory fits =
    let e0 : a - a ≡ 0 = omega arith in
    let e1 : a + 1 - a ≡ 1 = omega arith in
    let e2 : a + 2 - a ≡ 2 = omega arith in
    let e3 : a + 3 - a ≡ 3 = omega arith in
    let b0 : with_bytes 4 a v memory a ≡ v % 256 = byte_within 4 a v memory a (omega arith) (omega arith) ∙ ap (byte_of v) e0 in
    let b1 : with_bytes 4 a v memory (a + 1) ≡ v / 256 % 256 = byte_within 4 a v memory (a + 1) (omega arith) (omega arith) ∙ ap (byte_of v) e1 in
    let b2 : with_bytes 4 a v memory (a + 2) ≡ v / 65536 % 256 = byte_within 4 a v memory (a + 2) (omega arith) (omega arith) ∙ ap (byte_of v) e2 in
    let b3 : with_bytes 4 a v memory (a + 3) ≡ v / 16777216 % 256 = byte_within 4 a v memory (a + 3) (omega arith) (omega arith) ∙ ap (byte_of v) e3 in
    word_by (with_bytes 4 a v memory a) (with_bytes 4 a v memory (a + 1)) (with_bytes 4 a v memory (a + 2)) (with_bytes 4 a v memory (a + 3)) v fits b0 b1 b2 b3
  where
    word_by : (x y z w v : ℕ) → v < 4294967296 → x ≡ v % 256 → y ≡ v / 256 % 256 → z ≡ v / 65536 % 256 → w ≡ v / 16777216 % 256 → x + y * 256 + z * 65536 + w * 16777216 ≡ v
    word_by x y z w v fits ex ey ez ew = omega arith

-- ---- What a load gets elsewhere

-- ---- Ranges

byte_of_small : (v k : ℕ) → byte_of v k < 256
byte_of_small v zero = omega arith
byte_of_small v (suc zero) = omega arith
byte_of_small v (suc (suc zero)) = omega arith
byte_of_small v (suc (suc (suc k))) = omega arith

-- Bytes stay bytes.
pub bytes_in_range : (n a v : ℕ) (memory : ℕ → ℕ) → ((b : ℕ) → memory b < 256) → (b : ℕ) → with_bytes n a v memory b < 256
bytes_in_range n a v memory old b = by_tests (nat_lt b a) (nat_lt b (a + n))
  where
    by_tests : (c d : Bool) → cond c (memory b) (cond d (byte_of v (b - a)) (memory b)) < 256
    by_tests true d = old b
    by_tests false true = byte_of_small v (b - a)
    by_tests false false = old b

-- What a load gets is a word.
pub loaded_in_range : (op : LoadOperation) (a : ℕ) (memory : ℕ → ℕ) → ((b : ℕ) → memory b < 256) → loaded_at op memory a < 4294967296
loaded_in_range Lb a memory small = let h = small a in by_test (nat_lt (memory a) 128)
  where
    by_test : (b : Bool) → cond b (memory a) (memory a + 4294967040) < 4294967296
    by_test true = let h = small a in omega arith
    by_test false = let h = small a in omega arith
loaded_in_range Lh a memory small = by_test (nat_lt (half_at memory a) 32768)
  where
    by_test : (b : Bool) → cond b (half_at memory a) (half_at memory a + 4294901760) < 4294967296
    by_test true = let h0 = small a in let h1 = small (a + 1) in omega arith
    by_test false = let h0 = small a in let h1 = small (a + 1) in omega arith
loaded_in_range Lw a memory small = let h0 = small a in let h1 = small (a + 1) in let h2 = small (a + 2) in let h3 = small (a + 3) in omega arith
loaded_in_range Lbu a memory small = let h0 = small a in omega arith
loaded_in_range Lhu a memory small = let h0 = small a in let h1 = small (a + 1) in omega arith
