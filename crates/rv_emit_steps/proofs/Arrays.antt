-- The bytes that initialise an array stand as they stood, where nothing writes them.
use Rattle.std.proofs.Common.{◌≡◌, ℕ, ◌+◌, ◌*◌, ◌<◌, ◌≤◌, ◌⊎◌, ⊎_elim, inl, inr, sym, ◌∙◌, subst, arith, refl, List, length, slice_get, Some, true}
use Rattle.graph_core.specs.Memory.{Memory, Object, bytes_of, words_of}
use Rattle.rv_emit_storage.specs.Storages.{array_bytes_at}
use Rattle.rv_emit_steps.specs.Frames.{Setting, HasArray}
use Rattle.rv_emit_steps.proofs.Objects.{AreThose, WasThere}

pub those_same : (memory : Memory) → AreThose memory memory
those_same memory = record { kept = λ n size e. e; were = λ n p is. record { object = p; is = is; bytes = refl; live = λ l. l } }

pub array_stays : (w : Setting) (memory later : Memory) (m after : ℕ → ℕ) (n : ℕ) (all : List ℕ) → AreThose memory later
    → ((b : ℕ) → array_bytes_at w.storage n ≤ b → b < array_bytes_at w.storage n + 4 * words_of (length all) → after b ≡ m b) → HasArray w memory m n all → HasArray w later after n all
array_stays w memory later m after n all those same has = record {
  aligned = has.aligned;
  low = has.low;
  high = has.high;
  bytes = λ i lt. same (array_bytes_at w.storage n + i) (omega arith) (omega (arith, lt)) ∙ has.bytes i lt;
  apart = λ k p is live.
      let was : WasThere memory k p = those.were k p is in
      subst (λ size. (w.addresses k + 4 * words_of size ≤ array_bytes_at w.storage n) ⊎ (array_bytes_at w.storage n + 4 * words_of (length all) ≤ w.addresses k)) (sym was.bytes) (has.apart k was.object was.is (was.live live));
}

-- A byte of an array is apart from each word of a live object.
pub array_apart : (w : Setting) (memory : Memory) (m : ℕ → ℕ) (n : ℕ) (all : List ℕ) (k : ℕ) (o : Object) → HasArray w memory m n all → slice_get memory k ≡ Some o → o.live ≡ true
    → (b : ℕ) → array_bytes_at w.storage n ≤ b → b < array_bytes_at w.storage n + 4 * words_of (length all) → (b < w.addresses k) ⊎ (w.addresses k + 4 * words_of (bytes_of o) ≤ b)
array_apart w memory m n all k o has is live b low high = ⊎_elim
    (λ (below : w.addresses k + 4 * words_of (bytes_of o) ≤ array_bytes_at w.storage n). inr (omega (arith, below, low)))
    (λ (above : array_bytes_at w.storage n + 4 * words_of (length all) ≤ w.addresses k). inl (omega (arith, above, high)))
    (has.apart k o is live)
