-- The frame of an activation stands as it is to stand behind words that fetch, and behind those that write a home.
use Rattle.std.proofs.Common.{length, ◌≡◌, ◌≢◌, ℕ, ◌+◌, ◌*◌, ◌%◌, ◌<◌, ◌≤◌, ◌⊎◌, ⊎_elim, inl, inr, sym, ap, ◌∙◌, subst, arith, refl, Some, Bool, true, false, cond, List, [], ◌∷◌}
use Rattle.std.specs.Prelude.{◌==◌}
use Rattle.std.proofs.lemmas.Bool.{eqb-true, eq-eqb, ne_eqb, cases_lt}
use Rattle.memory_map.specs.Maps.{bytes_end, stack_end, stack_start}
use Rattle.memory_map.proofs.Facts.{map_facts}
use Rattle.rv_code.specs.declared.instruction.Instruction.{Instruction as MachineInstruction}
use Rattle.graph_core.specs.declared.value.Value.{Value}
use Rattle.graph_core.specs.Memory.{bytes_of, words_of}
use Rattle.graph_core.specs.Runs.{Configuration, with_value_at, take_value}
use Rattle.graph_homes.specs.declared.home.Home.{Home}
use Rattle.graph_homes.specs.declared.home.Home.TheVariants.{Register, Slot}
use Rattle.graph_homes.specs.Homed.{IsHomeRegister, IsHomeAmong, home_number}
use Rattle.rv_emit_words.specs.declared.piece.Held.{Held}
use Rattle.rv_emit_storage.specs.declared.storage.Source.TheVariants.{Home as OfHome}
use Rattle.rv_emit_storage.specs.UnitMaps.{map_of_unit}
use Rattle.rv_emit_storage.specs.Storages.{StorageForm, slot_at, object_at, array_bytes_at}
use Rattle.rv_emit_steps.specs.Holding.{Holding, word_at, with_bytes}
use Rattle.rv_emit_steps.specs.Doing.{done_by_all}
use Rattle.rv_emit_steps.proofs.Apart.{byte_outside}
use Rattle.rv_emit_steps.proofs.Placing.{regions_stay}
use Rattle.rv_emit_steps.specs.EmitMovesDoing.{CanFetch, Makes, CanWrite, HasSlot, HoldsAll, AreLeft, IsLeft, IsReadable, IsNoHome, value_of_home, memory_with}
use Rattle.rv_emit_steps.proofs.Computing.{left_0, left_2, left_3, can_fetch_stays}
use Rattle.rv_emit_steps.specs.Meaning.{Means, HoldsObjects}
use Rattle.rv_emit_steps.specs.Frames.{Setting, IsStorage, IsScratch, AreScratch, HasArray, HoldsFrame, Performs}
use Rattle.rv_emit_steps.proofs.Arrays.{those_same, array_stays}
use Rattle.rv_emit_steps.proofs.Elements.{word_kept}
use Rattle.rv_emit_steps.proofs.Objects.{objects_kept}

-- ---- Homes

pub home_left : (r : ℕ) → IsHomeRegister r → IsLeft r
home_left r (inl is) = record { t0 = λ e. omega (arith, is, e); t1 = λ e. omega (arith, is, e); t2 = λ e. omega (arith, is, e) }
home_left r (inr (low, high)) = record { t0 = λ e. omega (arith, low, e); t1 = λ e. omega (arith, low, e); t2 = λ e. omega (arith, low, e) }

home_low : (r : ℕ) → IsHomeRegister r → r ≤ 31
home_low r (inl is) = omega (arith, is)
home_low r (inr both) = both.1

-- Where a slot lies.
pub slot_is : (w : Setting) (c : Configuration) (h : Holding) (k : ℕ) → IsStorage w → HoldsFrame w c h → k < w.slots → slot_at w.storage k ≡ w.storage.slots + 4 * k
slot_is w c h k storage frame lt =
    let room : w.storage.slots + 4 * w.slots ≤ w.size = storage.room in
    let high : h.registers 2 + w.size ≤ stack_end (map_of_unit w.unit) = frame.high in
    let whole = (map_facts (map_of_unit w.unit)).whole in
    omega arith

pub has_slot : (w : Setting) (c : Configuration) (h : Holding) (k : ℕ) → IsStorage w → HoldsFrame w c h → k < w.slots → HasSlot h (slot_at w.storage k)
has_slot w c h k storage frame lt =
    let room : w.storage.slots + 4 * w.slots ≤ w.size = storage.room in
    let high : h.registers 2 + w.size ≤ stack_end (map_of_unit w.unit) = frame.high in
    let is : slot_at w.storage k ≡ w.storage.slots + 4 * k = slot_is w c h k storage frame lt in
    let a : h.registers 2 % 4 ≡ 0 = frame.aligned in
    let b : w.storage.slots % 4 ≡ 0 = storage.aligned in
    record {
      aligned = omega (arith, is, a, b);
      low = subst (λ m. stack_start m ≤ h.registers 2) (sym frame.map) frame.low;
      high = subst (λ m. h.registers 2 + slot_at w.storage k + 4 ≤ stack_end m) (sym frame.map) (omega (arith, is, room, high, lt));
    }

-- A home can be written and read.
pub can_write : (w : Setting) (c : Configuration) (h : Holding) (home : Home) → IsStorage w → HoldsFrame w c h → IsHomeAmong w.slots home → CanWrite w.storage h home
can_write w c h (Register r) storage frame (inl is) = (omega arith, (λ e. omega (arith, is, e)), (λ e. omega (arith, is, e)))
can_write w c h (Register r) storage frame (inr (low, high)) = (omega arith, (λ e. omega (arith, low, e)), (λ e. omega (arith, low, e)))
can_write w c h (Slot k) storage frame lt = has_slot w c h k storage frame lt

pub home_readable : (w : Setting) (c : Configuration) (h : Holding) (home : Home) → IsStorage w → HoldsFrame w c h → IsHomeAmong w.slots home → IsReadable w.storage h (OfHome home)
home_readable w c h (Register r) storage frame among = home_left r among
home_readable w c h (Slot k) storage frame lt = has_slot w c h k storage frame lt

-- ---- Behind a fetch

home_stays : (w : Setting) (h t : Holding) (home : Home) → ((q : ℕ) → IsLeft q → t.registers q ≡ h.registers q) → t.memory ≡ h.memory → IsHomeAmong w.slots home → value_of_home w.storage t home ≡ value_of_home w.storage h home
home_stays w h t (Register r) kept memory among = kept r (home_left r among)
home_stays w h t (Slot k) kept memory among = ap (λ s. word_at t.memory (s + slot_at w.storage k)) (kept 2 left_2) ∙ ap (λ (m : ℕ → ℕ). word_at m (h.registers 2 + slot_at w.storage k)) memory

-- The frame stands as it stood where no register but t0 to t2 was written, and no memory.
pub frame_stays : (w : Setting) (c : Configuration) (h t : Holding) → t.regions ≡ h.regions → ((q : ℕ) → IsLeft q → t.registers q ≡ h.registers q) → t.memory ≡ h.memory → HoldsFrame w c h → HoldsFrame w c t
frame_stays w c h t regions kept memory frame =
    let sp : t.registers 2 ≡ h.registers 2 = kept 2 left_2 in
    record {
      fetch = can_fetch_stays w.storage w.held h t kept frame.fetch;
      scratch = frame.scratch;
      aligned = ap (λ s. s % 4) sp ∙ frame.aligned;
      map = regions ∙ frame.map;
      low = subst (λ s. stack_start (map_of_unit w.unit) ≤ s) (sym sp) frame.low;
      high = subst (λ s. s + w.size ≤ stack_end (map_of_unit w.unit)) (sym sp) frame.high;
      homes = λ home among. subst (λ x. Means w.addresses c.memory (c.here.names (home_number home)) x) (sym (home_stays w h t home kept memory among)) (frame.homes home among);
      objects = subst (λ (m : ℕ → ℕ). HoldsObjects w.addresses c.memory m) (sym memory) frame.objects;
      laid = frame.laid;
      free = λ n o is live. subst (λ s. (w.addresses n + bytes_of o ≤ s) ⊎ (s + (w.storage.slots + 4 * w.slots) ≤ w.addresses n)) (sym sp) (frame.free n o is live);
      own = λ k lt. frame.own k lt ∙ ap (λ s. s + object_at w.storage k) (sym sp);
      static = frame.static;
      arrays = λ n all is. subst (λ (m : ℕ → ℕ). HasArray w c.memory m n all) (sym memory) (frame.arrays n all is);
    }

-- ---- Behind a write of a home

no_home : (slots : ℕ) (home : Home) (q : ℕ) → IsHomeAmong slots home → (q < 9) ⊎ ((10 ≤ q) × (q ≤ 17)) → IsNoHome home q
no_home slots (Register r) q (inl is) (inl low) = λ e. omega (arith, is, low, e)
no_home slots (Register r) q (inl is) (inr (a, b)) = λ e. omega (arith, is, a, e)
no_home slots (Register r) q (inr (l, u)) (inl low) = λ e. omega (arith, l, low, e)
no_home slots (Register r) q (inr (l, u)) (inr (a, b)) = λ e. omega (arith, l, b, e)
no_home slots (Slot k) q among which = tt

scratch_low : (r : ℕ) → IsScratch r → (r < 9) ⊎ ((10 ≤ r) × (r ≤ 17))
scratch_low r (inl is) = inl (omega (arith, is))
scratch_low r (inr both) = let low = both.0 in inr (omega (arith, low), both.1)

-- The same where a0, which holds no constant and is no home, was written too.
scratch_no_a0 : (r : ℕ) → IsScratch r → r ≢ 10
scratch_no_a0 r (inl is) = λ e. omega (arith, is, e)
scratch_no_a0 r (inr both) = let low = both.0 in λ e. omega (arith, low, e)

pub home_no_a0 : (r : ℕ) → IsHomeRegister r → r ≢ 10
home_no_a0 r (inl is) = λ e. omega (arith, is, e)
home_no_a0 r (inr both) = let low = both.0 in λ e. omega (arith, low, e)

held_stay : (held : List Held) (h t : Holding) → ((q : ℕ) → IsLeft q → q ≢ 10 → t.registers q ≡ h.registers q) → AreScratch held → AreLeft held → HoldsAll held h → HoldsAll held t
held_stay [] h t kept scratch left all = tt
held_stay (x ∷ more) h t kept scratch left all = (kept x.register left.0 (scratch_no_a0 x.register scratch.0) ∙ all.0, held_stay more h t kept scratch.1 left.1 all.1)

pub fetch_stays : (g : StorageForm) (held : List Held) (h t : Holding) → ((q : ℕ) → IsLeft q → q ≢ 10 → t.registers q ≡ h.registers q) → AreScratch held → CanFetch g held h → CanFetch g held t
fetch_stays g held h t kept scratch can = record {
  fits = can.fits;
  none = kept 0 left_0 (λ e. cc) ∙ can.none;
  gp = kept 3 left_3 (λ e. cc) ∙ can.gp;
  all = held_stay held h t kept scratch can.left can.all;
  left = can.left;
}

held_kept : (slots : ℕ) (held : List Held) (h t : Holding) (home : Home) → IsHomeAmong slots home → ((q : ℕ) → IsNoHome home q → IsLeft q → t.registers q ≡ h.registers q) → AreScratch held → AreLeft held → HoldsAll held h → HoldsAll held t
held_kept slots [] h t home among kept scratch left all = tt
held_kept slots (x ∷ more) h t home among kept scratch left all =
    (kept x.register (no_home slots home x.register among (scratch_low x.register scratch.0)) left.0 ∙ all.0, held_kept slots more h t home among kept scratch.1 left.1 all.1)

-- Bytes that no slot has, in memory in which a home was written.
kept_outside : (w : Setting) (c : Configuration) (h : Holding) (home : Home) (x b : ℕ) → IsStorage w → HoldsFrame w c h → IsHomeAmong w.slots home
    → (b < h.registers 2 + w.storage.slots) ⊎ (h.registers 2 + (w.storage.slots + 4 * w.slots) ≤ b) → memory_with w.storage h home x b ≡ h.memory b
kept_outside w c h (Register r) x b storage frame among which = refl
kept_outside w c h (Slot k) x b storage frame lt which =
    let is : slot_at w.storage k ≡ w.storage.slots + 4 * k = slot_is w c h k storage frame lt in
    byte_outside 4 (h.registers 2 + slot_at w.storage k) x h.memory b
    (⊎_elim (λ (low : b < h.registers 2 + w.storage.slots). inl (omega (arith, low, is))) (λ (high : h.registers 2 + (w.storage.slots + 4 * w.slots) ≤ b). inr (omega (arith, high, is, lt))) which)

-- Another slot.
other_slot : (w : Setting) (c : Configuration) (h : Holding) (k j x : ℕ) → IsStorage w → HoldsFrame w c h → k < w.slots → j < w.slots → j ≢ k
    → word_at (with_bytes 4 (h.registers 2 + slot_at w.storage k) x h.memory) (h.registers 2 + slot_at w.storage j) ≡ word_at h.memory (h.registers 2 + slot_at w.storage j)
other_slot w c h k j x storage frame lk lj ne =
    let ik : slot_at w.storage k ≡ w.storage.slots + 4 * k = slot_is w c h k storage frame lk in
    let ij : slot_at w.storage j ≡ w.storage.slots + 4 * j = slot_is w c h j storage frame lj in
    word_kept h.memory (with_bytes 4 (h.registers 2 + slot_at w.storage k) x h.memory) (h.registers 2 + slot_at w.storage j)
    (byte_outside 4 _ x h.memory _ (apart ik ij 0 (h.registers 2 + slot_at w.storage j) (omega arith) (omega arith)))
    (byte_outside 4 _ x h.memory _ (apart ik ij 1 (h.registers 2 + slot_at w.storage j + 1) refl (omega arith)))
    (byte_outside 4 _ x h.memory _ (apart ik ij 2 (h.registers 2 + slot_at w.storage j + 2) refl (omega arith)))
    (byte_outside 4 _ x h.memory _ (apart ik ij 3 (h.registers 2 + slot_at w.storage j + 3) refl (omega arith)))
  where
    apart : slot_at w.storage k ≡ w.storage.slots + 4 * k → slot_at w.storage j ≡ w.storage.slots + 4 * j → (d b : ℕ) → b ≡ h.registers 2 + slot_at w.storage j + d → d < 4
        → (b < h.registers 2 + slot_at w.storage k) ⊎ (h.registers 2 + slot_at w.storage k + 4 ≤ b)
    apart ik ij d b eb few = ⊎_elim (λ (lt : j < k). inl (omega (arith, ik, ij, eb, few, lt))) (λ (ge : k ≤ j). inr (let other : j ≢ k = ne in omega (arith, ik, ij, eb, ge, other))) (cases_lt j k)

-- What the homes hold behind a write of one.
module _ (w : Setting) (c : Configuration) (h t : Holding) (v : Value) (x : ℕ) (storage : IsStorage w) (frame : HoldsFrame w c h) (means : Means w.addresses c.memory v x) where
  homes_written : (home other : Home) → IsHomeAmong w.slots home → IsHomeAmong w.slots other → value_of_home w.storage t home ≡ x → ((q : ℕ) → IsNoHome home q → IsLeft q → t.registers q ≡ h.registers q) → t.registers 2 ≡ h.registers 2
      → t.memory ≡ memory_with w.storage h home x → Means w.addresses c.memory (with_value_at c.here.names (home_number home) v (home_number other)) (value_of_home w.storage t other)
  homes_written (Register r) (Register q) among also is kept sp memory = by_test (q == r) refl
    where
      by_test : (b : Bool) → (q == r) ≡ b → Means w.addresses c.memory (cond b v (c.here.names q)) (t.registers q)
      by_test true e = let same : q ≡ r = eqb-true q r e in subst (λ y. Means w.addresses c.memory v y) (sym (ap t.registers same ∙ is)) means
      by_test false e = subst (λ y. Means w.addresses c.memory (c.here.names q) y) (sym (kept q (λ same. cc (eq-eqb q r same)) (home_left q also))) (frame.homes (Register q) also)
  homes_written (Register r) (Slot j) among also is kept sp memory =
      let test : (32 + j == r) ≡ false = ne_eqb (32 + j) r (λ e. omega (arith, e, home_low r among)) in
      let same : value_of_home w.storage t (Slot j) ≡ value_of_home w.storage h (Slot j) = ap (λ s. word_at t.memory (s + slot_at w.storage j)) sp ∙ ap (λ (m : ℕ → ℕ). word_at m (h.registers 2 + slot_at w.storage j)) memory in
      subst (λ b. Means w.addresses c.memory (cond b v (c.here.names (32 + j))) (value_of_home w.storage t (Slot j))) (sym test) (subst (λ y. Means w.addresses c.memory (c.here.names (32 + j)) y) (sym same) (frame.homes (Slot j) also))
  homes_written (Slot k) (Register q) among also is kept sp memory =
      let test : (q == 32 + k) ≡ false = ne_eqb q (32 + k) (λ e. omega (arith, e, home_low q also)) in
      subst (λ b. Means w.addresses c.memory (cond b v (c.here.names q)) (t.registers q)) (sym test)
      (subst (λ y. Means w.addresses c.memory (c.here.names q) y) (sym (kept q tt (home_left q also))) (frame.homes (Register q) also))
  homes_written (Slot k) (Slot j) among also is kept sp memory = by_test (32 + j == 32 + k) refl
    where
      by_test : (b : Bool) → (32 + j == 32 + k) ≡ b → Means w.addresses c.memory (cond b v (c.here.names (32 + j))) (value_of_home w.storage t (Slot j))
      by_test true e = let same : j ≡ k = omega (arith, eqb-true (32 + j) (32 + k) e) in subst (λ y. Means w.addresses c.memory v y) (sym (ap (λ i. value_of_home w.storage t (Slot i)) same ∙ is)) means
      by_test false e =
          let ne : j ≢ k = λ same. cc (eq-eqb (32 + j) (32 + k) (ap (λ i. 32 + i) same)) in
          let same : value_of_home w.storage t (Slot j) ≡ value_of_home w.storage h (Slot j) =
          ap (λ s. word_at t.memory (s + slot_at w.storage j)) sp ∙ ap (λ (m : ℕ → ℕ). word_at m (h.registers 2 + slot_at w.storage j)) memory ∙ other_slot w c h k j x storage frame among also ne in
          subst (λ y. Means w.addresses c.memory (c.here.names (32 + j)) y) (sym same) (frame.homes (Slot j) also)

-- Words that make a home a word which means a value perform the step that writes the value to the home's name.
pub home_performed : (w : Setting) (c : Configuration) (h : Holding) (home : Home) (v : Value) (x : ℕ) (code : List MachineInstruction) → IsStorage w → HoldsFrame w c h → IsHomeAmong w.slots home
    → Makes w.storage code h home x → Means w.addresses c.memory v x → Performs w c h (Some home) code (record c { here = take_value (home_number home) v c.here })
home_performed w c h home v x code storage frame among made means =
    let t : Holding = done_by_all code h in
    let sp : t.registers 2 ≡ h.registers 2 = made.kept 2 (no_home w.slots home 2 among (inl (omega arith))) left_2 in
    record {
      can = made.can;
      frame = record {
        fetch = record {
          fits = frame.fetch.fits;
          none = made.kept 0 (no_home w.slots home 0 among (inl (omega arith))) left_0 ∙ frame.fetch.none;
          gp = made.kept 3 (no_home w.slots home 3 among (inl (omega arith))) left_3 ∙ frame.fetch.gp;
          all = held_kept w.slots w.held h t home among made.kept frame.scratch frame.fetch.left frame.fetch.all;
          left = frame.fetch.left;
        };
        scratch = frame.scratch;
        aligned = ap (λ s. s % 4) sp ∙ frame.aligned;
        map = regions_stay code h ∙ frame.map;
        low = subst (λ s. stack_start (map_of_unit w.unit) ≤ s) (sym sp) frame.low;
        high = subst (λ s. s + w.size ≤ stack_end (map_of_unit w.unit)) (sym sp) frame.high;
        homes = λ other also. homes_written w c h t v x storage frame means home other among also made.value made.kept sp made.memory;
        objects = objects_kept w.addresses c.memory h.memory t.memory
            (λ n o is live b low high. ap (λ (m : ℕ → ℕ). m b) made.memory ∙ kept_outside w c h home x b storage frame among
            (⊎_elim (λ (below : w.addresses n + bytes_of o ≤ h.registers 2). inl (omega (arith, high, below))) (λ (above : h.registers 2 + (w.storage.slots + 4 * w.slots) ≤ w.addresses n). inr (omega (arith, low, above))) (frame.free n o is live)))
            frame.objects;
        laid = frame.laid;
        free = λ n o is live. subst (λ s. (w.addresses n + bytes_of o ≤ s) ⊎ (s + (w.storage.slots + 4 * w.slots) ≤ w.addresses n)) (sym sp) (frame.free n o is live);
        own = λ k lt. frame.own k lt ∙ ap (λ s. s + object_at w.storage k) (sym sp);
        static = frame.static;
        arrays = λ n all is.
            let has : HasArray w c.memory h.memory n all = frame.arrays n all is in
            let sp_low : stack_start (map_of_unit w.unit) ≤ h.registers 2 = frame.low in
            let high : array_bytes_at w.storage n + 4 * words_of (length all) ≤ bytes_end (map_of_unit w.unit) = has.high in
            let between = (map_facts (map_of_unit w.unit)).apart in
            array_stays w c.memory c.memory h.memory t.memory n all (those_same c.memory) (λ b lo hi. ap (λ (m : ℕ → ℕ). m b) made.memory ∙ kept_outside w c h home x b storage frame among (inl (omega (arith, hi, high, sp_low, between)))) has;
      };
      kept = made.kept;
      outside = λ b out. ap (λ (m : ℕ → ℕ). m b) made.memory ∙ kept_outside w c h home x b storage frame among out.0;
      input = made.input;
    }
