-- The frame of an activation stands as it is to stand behind words that fill an object from its beginning on.
use Rattle.std.proofs.Common.{◌≡◌, ◌≢◌, ℕ, zero, suc, ◌+◌, ◌*◌, ◌%◌, ◌<◌, ◌≤◌, ◌⊎◌, ⊎_elim, inl, inr, sym, ap, ◌∙◌, subst, arith, refl, List, [], ◌∷◌, ◌++◌, length, take, drop, slice_get, slice_set, Some, true}
use Rattle.std.proofs.lemmas.Bool.{cases_lt}
use Rattle.std.proofs.lemmas.Option.{slice_get_within}
use Rattle.memory_map.specs.Maps.{stack_end, stack_start}
use Rattle.graph_core.specs.declared.value.Value.{Value}
use Rattle.graph_core.specs.declared.instruction.Element.{Element}
use Rattle.graph_core.specs.declared.instruction.Element.TheVariants.{Unsigned8, Signed8, Unsigned16, Signed16, Word}
use Rattle.graph_core.specs.Values.{size_of}
use Rattle.graph_core.specs.Memory.{Memory, Object, bytes_of, words_of}
use Rattle.graph_core.specs.Runs.{Configuration}
use Rattle.graph_homes.specs.declared.home.Home.{Home}
use Rattle.graph_homes.specs.declared.home.Home.TheVariants.{Register, Slot}
use Rattle.graph_homes.specs.Homed.{IsHomeAmong, home_number}
use Rattle.rv_emit_storage.specs.UnitMaps.{map_of_unit}
use Rattle.rv_emit_storage.specs.Storages.{slot_at, object_at}
use Rattle.rv_emit_steps.specs.Holding.{Holding, word_at}
use Rattle.rv_emit_steps.specs.EmitMovesDoing.{IsLeft, value_of_home}
use Rattle.rv_emit_steps.proofs.Computing.{left_2}
use Rattle.rv_emit_steps.specs.Meaning.{Means, bits_at, HoldsBits, HoldsObjects}
use Rattle.rv_emit_steps.specs.Frames.{Setting, IsStorage, HoldsFrame}
use Rattle.rv_emit_steps.proofs.Arrays.{array_stays, array_apart}
use Rattle.rv_emit_steps.proofs.Elements.{word_kept, bits_kept}
use Rattle.rv_emit_steps.proofs.Objects.{AreThose, WasThere, get_set, those_set, means_later, holds_later, laid_later, element_within}
use Rattle.rv_emit_steps.proofs.Homes.{home_left, home_no_a0, fetch_stays, slot_is}

-- ---- Lists of which the front is replaced

abbrev pub with_front : List Value → List Value → List Value
with_front new old = take (length old) new ++ drop (length new) old

take_none : (n : ℕ) → take {A = Value} n [] ≡ []
take_none zero = refl
take_none (suc n) = refl

front_none : (old : List Value) → with_front [] old ≡ old
front_none old = ap (λ l. l ++ old) (take_none (length old))

pub front_length : (new old : List Value) → length (with_front new old) ≡ length old
front_length [] old = ap (λ (l : List Value). length l) (front_none old)
front_length (x ∷ new) [] = refl
front_length (x ∷ new) (y ∷ old) = ap (λ k. suc k) (front_length new old)

-- What stands in it: a new member, or an old one behind them.
pub front_has : (new old : List Value) (j : ℕ) (v : Value) → slice_get (with_front new old) j ≡ Some v → (slice_get new j ≡ Some v) ⊎ ((length new ≤ j) × (slice_get old j ≡ Some v))
front_has [] old j v e = inr (omega arith, subst (λ l. slice_get l j ≡ Some v) (front_none old) e)
front_has (x ∷ new) [] j v e = cc
front_has (x ∷ new) (y ∷ old) zero v e = inl e
front_has (x ∷ new) (y ∷ old) (suc j) v e = ⊎_elim (λ (h : slice_get new j ≡ Some v). inl h) (λ (h : (length new ≤ j) × (slice_get old j ≡ Some v)). inr (omega (arith, h.0), h.1)) (front_has new old j v e)

-- ---- The object that is filled

-- An element that does not end within whole words begins behind them.
beyond : (e : Element) (j words : ℕ) → 4 * words < j * size_of e + size_of e → 4 * words ≤ j * size_of e
beyond Unsigned8 j words lt = omega arith
beyond Signed8 j words lt = omega arith
beyond Unsigned16 j words lt = omega arith
beyond Signed16 j words lt = omega arith
beyond Word j words lt = omega arith

-- Memory behind the words: so many from an address on hold new bits, element by element, and the rest is as it was.
module _ (w : Setting) (c : Configuration) (h t : Holding) (storage : IsStorage w) (frame : HoldsFrame w c h) (n words : ℕ) (o : Object) (new : List Value) (there : slice_get c.memory n ≡ Some o) (live : o.live ≡ true)
    (few : words ≤ words_of (bytes_of o)) (every : (j : ℕ) → j * size_of o.element + size_of o.element ≤ 4 * words → j < length new) (regions : t.regions ≡ h.regions) (kept : (q : ℕ) → IsLeft q → q ≢ 10 → t.registers q ≡ h.registers q)
    (outside : (b : ℕ) → (b < w.addresses n) ⊎ (w.addresses n + 4 * words ≤ b) → t.memory b ≡ h.memory b)
    (filled : (j : ℕ) (v : Value) → slice_get new j ≡ Some v → HoldsBits w.addresses c.memory (size_of o.element) v (bits_at t.memory (size_of o.element) (w.addresses n + j * size_of o.element))) where
  abbrev pub filled_objects : Memory
  filled_objects = slice_set c.memory n (record o { values = with_front new o.values })

  those : AreThose c.memory (slice_set c.memory n (record o { values = with_front new o.values }))
  those = those_set c.memory n o (record o { values = with_front new o.values }) there (ap (λ k. k * size_of o.element) (front_length new o.values)) (λ l. l)

  -- A byte of another live object is as it was.
  others_kept : (k : ℕ) (p : Object) → k ≢ n → slice_get c.memory k ≡ Some p → p.live ≡ true → (b : ℕ) → w.addresses k ≤ b → b < w.addresses k + bytes_of p → t.memory b ≡ h.memory b
  others_kept k p ne is livep b low high =
      let ak : w.addresses k % 4 ≡ 0 = frame.laid.aligned k p is in
      let an : w.addresses n % 4 ≡ 0 = frame.laid.aligned n o there in
      outside b (⊎_elim
      (λ (below : w.addresses k + bytes_of p < w.addresses n). inl (omega (arith, high, below)))
      (λ (above : w.addresses n + bytes_of o < w.addresses k). inr (omega (arith, low, above, few, ak, an)))
      (frame.laid.apart k n p o ne is there livep live))

  -- Slots are as they were.
  slot_kept : (k : ℕ) → k < w.slots → word_at t.memory (h.registers 2 + slot_at w.storage k) ≡ word_at h.memory (h.registers 2 + slot_at w.storage k)
  slot_kept k lt =
      word_kept h.memory t.memory (h.registers 2 + slot_at w.storage k) (outside _ (beside 0 (h.registers 2 + slot_at w.storage k) (omega arith) (omega arith))) (outside _ (beside 1 _ refl (omega arith)))
      (outside _ (beside 2 _ refl (omega arith))) (outside _ (beside 3 _ refl (omega arith)))
    where
      beside : (d b : ℕ) → b ≡ h.registers 2 + slot_at w.storage k + d → d < 4 → (b < w.addresses n) ⊎ (w.addresses n + 4 * words ≤ b)
      beside d b eb d4 =
          let is : slot_at w.storage k ≡ w.storage.slots + 4 * k = slot_is w c h k storage frame lt in
          let an : w.addresses n % 4 ≡ 0 = frame.laid.aligned n o there in
          let sp : h.registers 2 % 4 ≡ 0 = frame.aligned in
          ⊎_elim
          (λ (below : w.addresses n + bytes_of o ≤ h.registers 2). inr (omega (arith, below, eb, few, an, sp)))
          (λ (above : h.registers 2 + (w.storage.slots + 4 * w.slots) ≤ w.addresses n). inl (omega (arith, above, is, eb, d4, lt)))
          (frame.free n o there live)

  home_kept : (home : Home) → IsHomeAmong w.slots home → value_of_home w.storage t home ≡ value_of_home w.storage h home
  home_kept (Register r) among = kept r (home_left r among) (home_no_a0 r among)
  home_kept (Slot k) lt = ap (λ s. word_at t.memory (s + slot_at w.storage k)) (kept 2 left_2 (λ e. cc)) ∙ slot_kept k lt

  -- An element of the object: a new one, or an old one behind them.
  in_object : (j : ℕ) (v : Value) → slice_get (with_front new o.values) j ≡ Some v → HoldsBits w.addresses c.memory (size_of o.element) v (bits_at t.memory (size_of o.element) (w.addresses n + j * size_of o.element))
  in_object j v e = ⊎_elim
      (λ (is : slice_get new j ≡ Some v). filled j v is)
      (λ (old : (length new ≤ j) × (slice_get o.values j ≡ Some v)).
      subst (λ bits. HoldsBits w.addresses c.memory (size_of o.element) v bits)
      (sym (bits_kept o.element h.memory t.memory (w.addresses n + j * size_of o.element) (λ b low high. outside b (inr (omega (arith, low, behind j old.0))))))
      (frame.objects n o there live j v old.1))
      (front_has new o.values j v e)
    where
      behind : (i : ℕ) → length new ≤ i → 4 * words ≤ i * size_of o.element
      behind i le = ⊎_elim
          (λ (lt : 4 * words < i * size_of o.element + size_of o.element). beyond o.element i words lt)
          (λ (ge : i * size_of o.element + size_of o.element ≤ 4 * words). let few_new = every i ge in absurd (omega (arith, few_new, le)))
          (cases_lt (4 * words) (i * size_of o.element + size_of o.element))

  filled_hold : HoldsObjects w.addresses filled_objects t.memory
  filled_hold k p is livep j v e = ⊎_elim
      (λ (both : (k ≡ n) × (p ≡ record o { values = with_front new o.values })). moved k p both.0 both.1 e)
      (λ (both : (k ≢ n) × (slice_get c.memory k ≡ Some p)).
      holds_later w.addresses c.memory filled_objects those (size_of p.element) v _
      (subst (λ bits. HoldsBits w.addresses c.memory (size_of p.element) v bits)
      (sym (bits_kept p.element h.memory t.memory (w.addresses k + j * size_of p.element)
      (λ b low high. let within = element_within p.element j (length p.values) (slice_get_within p.values j v e) in others_kept k p both.0 both.1 livep b (omega (arith, low)) (omega (arith, high, within)))))
      (frame.objects k p both.1 livep j v e)))
      (get_set c.memory n k (record o { values = with_front new o.values }) p is)
    where
      moved : (k2 : ℕ) (q : Object) → k2 ≡ n → q ≡ record o { values = with_front new o.values } → slice_get q.values j ≡ Some v → HoldsBits w.addresses filled_objects (size_of q.element) v (bits_at t.memory (size_of q.element) (w.addresses k2 + j * size_of q.element))
      moved k2 q ek eq e2 =
          let at_it : slice_get (with_front new o.values) j ≡ Some v = subst (λ (z : Object). slice_get z.values j ≡ Some v) eq e2 in
          subst (λ (z : Object). HoldsBits w.addresses filled_objects (size_of z.element) v (bits_at t.memory (size_of z.element) (w.addresses k2 + j * size_of z.element))) (sym eq)
          (subst (λ a. HoldsBits w.addresses filled_objects (size_of o.element) v (bits_at t.memory (size_of o.element) (w.addresses a + j * size_of o.element))) (sym ek)
          (holds_later w.addresses c.memory filled_objects those (size_of o.element) v _ (in_object j v at_it)))

  -- The frame behind the words.
  pub filled_framed : HoldsFrame w (record c { memory = slice_set c.memory n (record o { values = with_front new o.values }) }) t
  filled_framed =
      let sp : t.registers 2 ≡ h.registers 2 = kept 2 left_2 (λ e. cc) in
      record {
        fetch = fetch_stays w.storage w.held h t kept frame.scratch frame.fetch;
        scratch = frame.scratch;
        aligned = ap (λ s. s % 4) sp ∙ frame.aligned;
        map = regions ∙ frame.map;
        low = subst (λ s. stack_start (map_of_unit w.unit) ≤ s) (sym sp) frame.low;
        high = subst (λ s. s + w.size ≤ stack_end (map_of_unit w.unit)) (sym sp) frame.high;
        homes = λ home among. subst (λ y. Means w.addresses filled_objects (c.here.names (home_number home)) y) (sym (home_kept home among)) (means_later w.addresses c.memory filled_objects those _ _ (frame.homes home among));
        objects = filled_hold;
        laid = laid_later w.addresses c.memory filled_objects those frame.laid;
        free = λ m q is l.
            let was : WasThere c.memory m q = those.were m q is in
            subst (λ s. (w.addresses m + bytes_of q ≤ s) ⊎ (s + (w.storage.slots + 4 * w.slots) ≤ w.addresses m)) (sym sp)
            (subst (λ k. (w.addresses m + k ≤ h.registers 2) ⊎ (h.registers 2 + (w.storage.slots + 4 * w.slots) ≤ w.addresses m)) (sym was.bytes) (frame.free m was.object was.is (was.live l)));
        own = λ k lt. frame.own k lt ∙ ap (λ s. s + object_at w.storage k) (sym sp);
        static = λ m s is. (those.kept m _ (frame.static m s is).0, (frame.static m s is).1);
        arrays = λ m all is.
            array_stays w c.memory filled_objects h.memory t.memory m all those
            (λ b lo hi. outside b (⊎_elim (λ (low : b < w.addresses n). inl low) (λ (past : w.addresses n + 4 * words_of (bytes_of o) ≤ b). inr (omega (arith, past, few)))
            (array_apart w c.memory h.memory m all n o (frame.arrays m all is) there live b lo hi)))
            (frame.arrays m all is);
      }
