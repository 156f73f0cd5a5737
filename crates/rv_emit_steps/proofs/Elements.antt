-- Elements are loaded as what they hold, and stored as they keep values.
use Rattle.std.proofs.Common.{◌≡◌, ℕ, ◌+◌, ◌*◌, ◌%◌, ◌<◌, ◌≤◌, ap, ◌∙◌, arith, refl, Bool, true, false, cond}
use Rattle.std.specs.Prelude.{nat_lt}
use Rattle.word_base.specs.WordOperations.{truncated}
use Rattle.word_base.specs.declared.operation.Truncation.TheVariants as truncation
use Rattle.rv_machine.specs.Table.{signed_byte, signed_half, load_size, store_size}
use Rattle.graph_core.specs.declared.value.Value.{Value}
use Rattle.graph_core.specs.declared.value.Value.TheVariants.{Number, Pointer, Odd}
use Rattle.graph_core.specs.declared.instruction.Element.{Element}
use Rattle.graph_core.specs.declared.instruction.Element.TheVariants.{Unsigned8, Signed8, Unsigned16, Signed16, Word}
use Rattle.graph_core.specs.Values.{size_of, as_element}
use Rattle.graph_core.specs.Memory.{Memory}
use Rattle.rv_emit_instructions.specs.Memory.{load_operation, store_operation}
use Rattle.rv_emit_steps.specs.Holding.{half_at, word_at, loaded_at, with_bytes}
use Rattle.rv_emit_steps.proofs.Apart.{byte_stored, half_stored, word_stored}
use Rattle.rv_emit_steps.specs.Meaning.{Means, bits_at, low_bits, HoldsBits}

-- ---- Sizes

pub load_size_is : (e : Element) → load_size (load_operation e) ≡ size_of e
load_size_is Unsigned8 = refl
load_size_is Signed8 = refl
load_size_is Unsigned16 = refl
load_size_is Signed16 = refl
load_size_is Word = refl

pub store_size_is : (e : Element) → store_size (store_operation e) ≡ size_of e
store_size_is Unsigned8 = refl
store_size_is Signed8 = refl
store_size_is Unsigned16 = refl
store_size_is Signed16 = refl
store_size_is Word = refl

-- ---- Low bits

-- The low bits of a word are the same where they are taken with their sign.
signed_byte_low : (n : ℕ) → n % 256 ≡ truncated truncation.Signed8 n % 256
unfolding truncated
signed_byte_low n = by_test (nat_lt (n % 256) 128)
  where
    by_test : (b : Bool) → n % 256 ≡ cond b (n % 256) (n % 256 + 4294967040) % 256
    by_test true = omega arith
    by_test false = omega arith

signed_half_low : (n : ℕ) → n % 65536 ≡ truncated truncation.Signed16 n % 65536
unfolding truncated
signed_half_low n = by_test (nat_lt (n % 65536) 32768)
  where
    by_test : (b : Bool) → n % 65536 ≡ cond b (n % 65536) (n % 65536 + 4294901760) % 65536
    by_test true = omega arith
    by_test false = omega arith

half_kept : (m n : ℕ → ℕ) (a : ℕ) → n a ≡ m a → n (a + 1) ≡ m (a + 1) → half_at n a ≡ half_at m a
half_kept m n a e0 e1 = ap (λ x. x + n (a + 1) * 256) e0 ∙ ap (λ y. m a + y * 256) e1

pub word_kept : (m n : ℕ → ℕ) (a : ℕ) → n a ≡ m a → n (a + 1) ≡ m (a + 1) → n (a + 2) ≡ m (a + 2) → n (a + 3) ≡ m (a + 3) → word_at n a ≡ word_at m a
word_kept m n a e0 e1 e2 e3 =
    ap (λ x. x + n (a + 1) * 256 + n (a + 2) * 65536 + n (a + 3) * 16777216) e0
    ∙ ap (λ x. m a + x * 256 + n (a + 2) * 65536 + n (a + 3) * 16777216) e1
    ∙ ap (λ x. m a + m (a + 1) * 256 + x * 65536 + n (a + 3) * 16777216) e2
    ∙ ap (λ x. m a + m (a + 1) * 256 + m (a + 2) * 65536 + x * 16777216) e3

-- ---- Loads

module _ (addresses : ℕ → ℕ) (memory : Memory) where
  -- What a load of an element gets means what an access reads.
  pub loaded_means : (e : Element) (v : Value) (m : ℕ → ℕ) (a : ℕ) → HoldsBits addresses memory (size_of e) v (bits_at m (size_of e) a) → Means addresses memory (as_element e v) (loaded_at (load_operation e) m a)
  unfolding truncated
  loaded_means Unsigned8 (Number n) m a holds = holds
  loaded_means Signed8 (Number n) m a holds = ap signed_byte holds
  loaded_means Unsigned16 (Number n) m a holds = holds
  loaded_means Signed16 (Number n) m a holds = ap signed_half holds
  loaded_means Word (Number n) m a holds = holds
  loaded_means Unsigned8 (Pointer object size offset) m a holds = tt
  loaded_means Signed8 (Pointer object size offset) m a holds = tt
  loaded_means Unsigned16 (Pointer object size offset) m a holds = tt
  loaded_means Signed16 (Pointer object size offset) m a holds = tt
  loaded_means Word (Pointer object size offset) m a holds = holds
  loaded_means Unsigned8 Odd m a holds = tt
  loaded_means Signed8 Odd m a holds = tt
  loaded_means Unsigned16 Odd m a holds = tt
  loaded_means Signed16 Odd m a holds = tt
  loaded_means Word Odd m a holds = tt

  -- ---- Stores

  -- The low bits of a word that means a value hold it as an element keeps it.
  pub kept_means : (e : Element) (v : Value) (w : ℕ) → Means addresses memory v w → HoldsBits addresses memory (size_of e) (as_element e v) (low_bits (size_of e) w)
  unfolding truncated
  kept_means Unsigned8 (Number n) w means = omega (arith, means)
  kept_means Signed8 (Number n) w means = ap (λ k. k % 256) means ∙ signed_byte_low n
  kept_means Unsigned16 (Number n) w means = omega (arith, means)
  kept_means Signed16 (Number n) w means = ap (λ k. k % 65536) means ∙ signed_half_low n
  kept_means Word (Number n) w means = means
  kept_means Unsigned8 (Pointer object size offset) w means = tt
  kept_means Signed8 (Pointer object size offset) w means = tt
  kept_means Unsigned16 (Pointer object size offset) w means = tt
  kept_means Signed16 (Pointer object size offset) w means = tt
  kept_means Word (Pointer object size offset) w means = means
  kept_means Unsigned8 Odd w means = tt
  kept_means Signed8 Odd w means = tt
  kept_means Unsigned16 Odd w means = tt
  kept_means Signed16 Odd w means = tt
  kept_means Word Odd w means = tt

-- What stands where a word was stored.
pub bits_stored : (e : Element) (a w : ℕ) (m : ℕ → ℕ) → w < 4294967296 → bits_at (with_bytes (size_of e) a w m) (size_of e) a ≡ low_bits (size_of e) w
bits_stored Unsigned8 a w m fits = byte_stored a w m
bits_stored Signed8 a w m fits = byte_stored a w m
bits_stored Unsigned16 a w m fits = half_stored a w m
bits_stored Signed16 a w m fits = half_stored a w m
bits_stored Word a w m fits = word_stored a w m fits

-- Elements whose bytes are as they were hold what they held.
pub bits_kept : (e : Element) (m n : ℕ → ℕ) (a : ℕ) → ((b : ℕ) → a ≤ b → b < a + size_of e → n b ≡ m b) → bits_at n (size_of e) a ≡ bits_at m (size_of e) a
bits_kept Unsigned8 m n a same = same a (omega arith) (omega arith)
bits_kept Signed8 m n a same = same a (omega arith) (omega arith)
bits_kept Unsigned16 m n a same = half_kept m n a (same a (omega arith) (omega arith)) (same (a + 1) (omega arith) (omega arith))
bits_kept Signed16 m n a same = half_kept m n a (same a (omega arith) (omega arith)) (same (a + 1) (omega arith) (omega arith))
bits_kept Word m n a same = word_kept m n a (same a (omega arith) (omega arith)) (same (a + 1) (omega arith) (omega arith)) (same (a + 2) (omega arith) (omega arith)) (same (a + 3) (omega arith) (omega arith))
