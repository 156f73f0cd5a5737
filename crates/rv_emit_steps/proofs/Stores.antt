-- The frame of an activation stands as it is to stand behind a store to an object.
use Rattle.std.proofs.Common.{◌≡◌, ℕ, ◌+◌, ◌*◌, ◌%◌, ◌<◌, ◌≤◌, ◌⊎◌, ⊎_elim, inl, inr, sym, ap, ◌∙◌, subst, arith, refl, length, slice_set}
use Rattle.memory_map.specs.Maps.{stack_end, stack_start}
use Rattle.graph_core.specs.declared.value.Value.{Value}
use Rattle.graph_core.specs.declared.instruction.Element.{Element}
use Rattle.graph_core.specs.Values.{size_of}
use Rattle.graph_core.specs.Memory.{Memory, Object, bytes_of, words_of, with_value}
use Rattle.graph_core.specs.Runs.{Configuration}
use Rattle.graph_homes.specs.declared.home.Home.{Home}
use Rattle.graph_homes.specs.declared.home.Home.TheVariants.{Register, Slot}
use Rattle.graph_homes.specs.Homed.{IsHomeAmong, home_number}
use Rattle.rv_emit_storage.specs.UnitMaps.{map_of_unit}
use Rattle.rv_emit_storage.specs.Storages.{slot_at, object_at}
use Rattle.rv_emit_steps.specs.Holding.{Holding, word_at, with_bytes}
use Rattle.rv_emit_steps.proofs.Apart.{byte_outside}
use Rattle.rv_emit_steps.specs.EmitMovesDoing.{IsLeft, value_of_home}
use Rattle.rv_emit_steps.proofs.Computing.{left_2, can_fetch_stays}
use Rattle.rv_emit_steps.specs.Meaning.{Means, HoldsObjects}
use Rattle.rv_emit_steps.specs.Frames.{Setting, IsStorage, HoldsFrame}
use Rattle.rv_emit_steps.proofs.Arrays.{array_stays, array_apart}
use Rattle.rv_emit_steps.proofs.Elements.{word_kept}
use Rattle.rv_emit_steps.proofs.Objects.{AreThose, WasThere, means_later, laid_later, objects_those, object_written, element_within}
use Rattle.rv_emit_steps.proofs.Homes.{home_left, slot_is}
use Rattle.rv_emit_steps.proofs.Accesses.{Hits}

module _ (w : Setting) (c : Configuration) (h : Holding) (storage : IsStorage w) (frame : HoldsFrame w c h) (e : Element) (p v : Value) (x n : ℕ) (o : Object) (i : ℕ) (hits : Hits c.memory e p n o i)
    (means : Means w.addresses c.memory v x) (fits : x < 4294967296) where
  -- memory behind the store, and the objects behind it
  abbrev pub stored_memory : ℕ → ℕ
  stored_memory = with_bytes (size_of e) (w.addresses n + i * size_of o.element) x h.memory

  abbrev pub stored_objects : Memory
  stored_objects = slice_set c.memory n (with_value i v o)

  those : AreThose c.memory (slice_set c.memory n (with_value i v o))
  those = objects_those w.addresses c.memory h.memory n i o v x frame.laid frame.objects hits.there hits.live hits.low means fits

  -- A byte that the element does not have is as it was.
  pub byte_apart : (b : ℕ) → (b < w.addresses n) ⊎ (w.addresses n + bytes_of o ≤ b) → stored_memory b ≡ h.memory b
  byte_apart b which =
      let within = element_within o.element i (length o.values) hits.low in
      let wide : size_of e ≡ size_of o.element = hits.wide in
      byte_outside (size_of e) (w.addresses n + i * size_of o.element) x h.memory b
      (⊎_elim (λ (low : b < w.addresses n). inl (omega (arith, low))) (λ (high : w.addresses n + bytes_of o ≤ b). inr (omega (arith, high, within, wide))) which)

  -- Slots are as they were.
  slot_apart : (k : ℕ) → k < w.slots → word_at stored_memory (h.registers 2 + slot_at w.storage k) ≡ word_at h.memory (h.registers 2 + slot_at w.storage k)
  slot_apart k lt =
      word_kept h.memory stored_memory (h.registers 2 + slot_at w.storage k)
      (byte_apart _ (beside 0 (h.registers 2 + slot_at w.storage k) (omega arith) (omega arith))) (byte_apart _ (beside 1 _ refl (omega arith)))
      (byte_apart _ (beside 2 _ refl (omega arith))) (byte_apart _ (beside 3 _ refl (omega arith)))
    where
      beside : (d b : ℕ) → b ≡ h.registers 2 + slot_at w.storage k + d → d < 4 → (b < w.addresses n) ⊎ (w.addresses n + bytes_of o ≤ b)
      beside d b eb few =
          let is : slot_at w.storage k ≡ w.storage.slots + 4 * k = slot_is w c h k storage frame lt in
          ⊎_elim
          (λ (below : w.addresses n + bytes_of o ≤ h.registers 2). inr (omega (arith, below, eb)))
          (λ (above : h.registers 2 + (w.storage.slots + 4 * w.slots) ≤ w.addresses n). inl (omega (arith, above, is, eb, few, lt)))
          (frame.free n o hits.there hits.live)

  module _ (t : Holding) (regions : t.regions ≡ h.regions) (kept : (q : ℕ) → IsLeft q → t.registers q ≡ h.registers q) (memory : t.memory ≡ with_bytes (size_of e) (w.addresses n + i * size_of o.element) x h.memory) where
    home_apart : (home : Home) → IsHomeAmong w.slots home → value_of_home w.storage t home ≡ value_of_home w.storage h home
    home_apart (Register r) among = kept r (home_left r among)
    home_apart (Slot k) lt = ap (λ s. word_at t.memory (s + slot_at w.storage k)) (kept 2 left_2) ∙ ap (λ (m : ℕ → ℕ). word_at m (h.registers 2 + slot_at w.storage k)) memory ∙ slot_apart k lt

    -- The frame behind the store.
    pub store_framed : HoldsFrame w (record c { memory = slice_set c.memory n (with_value i v o) }) t
    store_framed =
        let sp : t.registers 2 ≡ h.registers 2 = kept 2 left_2 in
        record {
          fetch = can_fetch_stays w.storage w.held h t kept frame.fetch;
          scratch = frame.scratch;
          aligned = ap (λ s. s % 4) sp ∙ frame.aligned;
          map = regions ∙ frame.map;
          low = subst (λ s. stack_start (map_of_unit w.unit) ≤ s) (sym sp) frame.low;
          high = subst (λ s. s + w.size ≤ stack_end (map_of_unit w.unit)) (sym sp) frame.high;
          homes = λ home among. subst (λ y. Means w.addresses stored_objects (c.here.names (home_number home)) y) (sym (home_apart home among)) (means_later w.addresses c.memory stored_objects those _ _ (frame.homes home among));
          objects = subst (λ (m : ℕ → ℕ). HoldsObjects w.addresses stored_objects m) (sym memory)
              (subst (λ s. HoldsObjects w.addresses stored_objects (with_bytes s (w.addresses n + i * size_of o.element) x h.memory)) (sym hits.wide)
              (object_written w.addresses c.memory h.memory n i o v x frame.laid frame.objects hits.there hits.live hits.low means fits));
          laid = laid_later w.addresses c.memory stored_objects those frame.laid;
          free = λ m q is live.
              let was : WasThere c.memory m q = those.were m q is in
              subst (λ s. (w.addresses m + bytes_of q ≤ s) ⊎ (s + (w.storage.slots + 4 * w.slots) ≤ w.addresses m)) (sym sp)
              (subst (λ k. (w.addresses m + k ≤ h.registers 2) ⊎ (h.registers 2 + (w.storage.slots + 4 * w.slots) ≤ w.addresses m)) (sym was.bytes) (frame.free m was.object was.is (was.live live)));
          own = λ k lt. frame.own k lt ∙ ap (λ s. s + object_at w.storage k) (sym sp);
          static = λ m s is. (those.kept m _ (frame.static m s is).0, (frame.static m s is).1);
          arrays = λ m all is.
              array_stays w c.memory stored_objects h.memory t.memory m all those
              (λ b lo hi. ap (λ (f : ℕ → ℕ). f b) memory ∙ byte_apart b (⊎_elim (λ (low : b < w.addresses n). inl low) (λ (past : w.addresses n + 4 * words_of (bytes_of o) ≤ b). inr (omega (arith, past)))
              (array_apart w c.memory h.memory m all n o (frame.arrays m all is) hits.there hits.live b lo hi)))
              (frame.arrays m all is);
        }
