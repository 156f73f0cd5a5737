-- Memory in which the objects of an activation have ended.
use Rattle.std.proofs.Common.{◌≡◌, ℕ, zero, suc, ◌+◌, ◌*◌, ◌<◌, ◌≤◌, ◌⊎◌, sym, ap, ◌∙◌, subst, arith, refl, Some, true, false, [], ◌∷◌, length, slice_get}
use Rattle.std.specs.Prelude.{map}
use Rattle.graph_core.specs.Values.{size_of}
use Rattle.graph_core.specs.Memory.{Memory, Object, bytes_of, ended, ended_from}
use Rattle.graph_core.specs.Runs.{Configuration}
use Rattle.rv_emit_steps.specs.Holding.{Holding}
use Rattle.rv_emit_steps.specs.Meaning.{size_at, HoldsObjects}
use Rattle.rv_emit_steps.specs.Frames.{Setting, HoldsFrame}
use Rattle.rv_emit_steps.proofs.Arrays.{array_stays}
use Rattle.rv_emit_steps.proofs.Objects.{AreThose, WasThere, means_later, holds_later, laid_later}

-- An object of it is one that there was, and is as it was if it lives.
pub record IsEndedOr (k : ℕ) (memory : Memory) (n : ℕ) (o : Object) : Type 0 where
  pub object : Object
  pub is : slice_get memory n ≡ Some object
  pub bytes : bytes_of o ≡ bytes_of object
  pub live : o.live ≡ true → object ≡ o
  pub low : o.live ≡ true → n < k

all_ended : (memory : Memory) (n : ℕ) (o : Object) → slice_get (map ended memory) n ≡ Some o → IsEndedOr 0 memory n o
all_ended [] n o e = cc
all_ended (x ∷ memory) zero o e =
    let same : ended x ≡ o = cc in
    record { object = x; is = refl; bytes = ap bytes_of (sym same); live = λ l. let clash : false ≡ true = ap (λ (q : Object). q.live) same ∙ l in cc; low = λ l. let clash : false ≡ true = ap (λ (q : Object). q.live) same ∙ l in cc }
all_ended (x ∷ memory) (suc n) o e = let later = all_ended memory n o e in record { object = later.object; is = later.is; bytes = later.bytes; live = later.live; low = λ l. absurd (let none = later.low l in omega (arith, none)) }

pub ended_or : (k : ℕ) (memory : Memory) (n : ℕ) (o : Object) → slice_get (ended_from k memory) n ≡ Some o → IsEndedOr k memory n o
ended_or zero memory n o e = all_ended memory n o e
ended_or (suc k) [] n o e = cc
ended_or (suc k) (x ∷ memory) zero o e = let same : x ≡ o = cc in record { object = x; is = refl; bytes = ap bytes_of (sym same); live = λ l. same; low = λ l. omega arith }
ended_or (suc k) (x ∷ memory) (suc n) o e = let later = ended_or k memory n o e in record { object = later.object; is = later.is; bytes = later.bytes; live = later.live; low = λ l. let lt = later.low l in omega (arith, lt) }

-- Each object keeps its size.
size_all_ended : (memory : Memory) (n : ℕ) → size_at (map ended memory) n ≡ size_at memory n
size_all_ended [] n = refl
size_all_ended (x ∷ memory) zero = refl
size_all_ended (x ∷ memory) (suc n) = size_all_ended memory n

pub size_ended : (k : ℕ) (memory : Memory) (n : ℕ) → size_at (ended_from k memory) n ≡ size_at memory n
size_ended zero memory n = size_all_ended memory n
size_ended (suc k) [] n = refl
size_ended (suc k) (x ∷ memory) zero = refl
size_ended (suc k) (x ∷ memory) (suc n) = size_ended k memory n

length_all_ended : (memory : Memory) → length (map ended memory) ≡ length memory
length_all_ended [] = refl
length_all_ended (x ∷ memory) = ap (λ n. suc n) (length_all_ended memory)

pub length_ended : (k : ℕ) (memory : Memory) → length (ended_from k memory) ≡ length memory
length_ended zero memory = length_all_ended memory
length_ended (suc k) [] = refl
length_ended (suc k) (x ∷ memory) = ap (λ n. suc n) (length_ended k memory)

pub those_ended : (k : ℕ) (memory : Memory) → AreThose memory (ended_from k memory)
those_ended k memory = record {
  kept = λ n size e. size_ended k memory n ∙ e;
  were = λ n o is.
      let was : IsEndedOr k memory n o = ended_or k memory n o is in
      record { object = was.object; is = was.is; bytes = was.bytes; live = λ l. ap (λ (q : Object). q.live) (was.live l) ∙ l };
}

-- What lives is held still.
pub objects_ended : (addresses : ℕ → ℕ) (k : ℕ) (memory : Memory) (m : ℕ → ℕ) → HoldsObjects addresses memory m → HoldsObjects addresses (ended_from k memory) m
objects_ended addresses k memory m holds n o is live i v has =
    let was : IsEndedOr k memory n o = ended_or k memory n o is in
    let there : slice_get memory n ≡ Some o = was.is ∙ ap (λ q. Some q) (was.live live) in
    holds_later addresses memory (ended_from k memory) (those_ended k memory) (size_of o.element) v _ (holds n o there live i v has)

-- The frame stands where the objects are those that there were and memory holds what lives of them.
pub frame_those : (w : Setting) (c : Configuration) (h : Holding) (later : Memory) → AreThose c.memory later → HoldsObjects w.addresses later h.memory → HoldsFrame w c h → HoldsFrame w (record c { memory = later }) h
frame_those w c h later those objects frame = record {
  fetch = frame.fetch;
  scratch = frame.scratch;
  aligned = frame.aligned;
  map = frame.map;
  low = frame.low;
  high = frame.high;
  homes = λ home among. means_later w.addresses c.memory later those _ _ (frame.homes home among);
  objects = objects;
  laid = laid_later w.addresses c.memory later those frame.laid;
  free = λ n o is live.
      let was : WasThere c.memory n o = those.were n o is in
      subst (λ k. (w.addresses n + k ≤ h.registers 2) ⊎ (h.registers 2 + (w.storage.slots + 4 * w.slots) ≤ w.addresses n)) (sym was.bytes) (frame.free n was.object was.is (was.live live));
  own = frame.own;
  static = λ n o is. (those.kept n _ (frame.static n o is).0, (frame.static n o is).1);
  arrays = λ n all is. array_stays w c.memory later h.memory h.memory n all those (λ b low high. refl) (frame.arrays n all is);
}
