-- The words that load constants into scratch registers do so, and the frame stands behind them.
use Rattle.std.proofs.Common.{◌≡◌, ◌≢◌, ℕ, ◌+◌, ◌-◌, ◌*◌, ◌%◌, ◌<◌, ◌≤◌, ◌⊎◌, ⊎_elim, inl, inr, sym, ap, ◌∙◌, subst, arith, refl, Option, Some, None, Bool, true, false, cond, not, List, [], ◌∷◌, ◌++◌}
use Rattle.std.specs.Prelude.{◌==◌, nat_le}
use Rattle.std.specs.Option.{option_map_or}
use Rattle.std.proofs.lemmas.Bool.{eq-eqb}
use Rattle.memory_map.specs.Maps.{stack_start, stack_end}
use Rattle.rv_emit_storage.specs.UnitMaps.{map_of_unit}
use Rattle.rv_code.specs.declared.instruction.Instruction.{Instruction}
use Rattle.rv_code.specs.declared.instruction.Instruction.TheVariants.{Immediate}
use Rattle.rv_code.specs.declared.instruction.ImmediateOperation.TheVariants.{Addi}
use Rattle.graph_core.specs.Memory.{bytes_of}
use Rattle.graph_core.specs.Runs.{Configuration}
use Rattle.graph_homes.specs.declared.home.Home.{Home}
use Rattle.graph_homes.specs.declared.home.Home.TheVariants.{Register, Slot}
use Rattle.graph_homes.specs.Homed.{IsHomeRegister, IsHomeAmong, home_number}
use Rattle.rv_emit_words.specs.declared.piece.Held.{Held}
use Rattle.rv_emit_storage.specs.Storages.{slot_at, object_at, array_bytes_at}
use Rattle.rv_emit_words.specs.Growing.{holder_of, forgotten}
use Rattle.rv_emit_words.specs.Constants.{words_of_constant, constant_by}
use Rattle.rv_emit_steps.specs.Holding.{Holding, word_at}
use Rattle.rv_emit_steps.specs.Doing.{done_by_all, CanDoAll}
use Rattle.rv_emit_steps.proofs.Placing.{done_by_both, can_do_both}
use Rattle.rv_emit_steps.specs.EmitMovesDoing.{Brings, HoldsAll, AreLeft, IsLeft, value_of_home}
use Rattle.rv_emit_steps.proofs.Constants.{addi_brings, constant_brings}
use Rattle.rv_emit_steps.proofs.Fetching.{holder_holds}
use Rattle.rv_emit_steps.proofs.Computing.{left_0, left_2, left_3}
use Rattle.rv_emit_steps.specs.Meaning.{Means, HoldsObjects}
use Rattle.rv_emit_steps.specs.Frames.{Setting, IsScratch, AreScratch, HasArray, HoldsFrame}
use Rattle.rv_emit_steps.proofs.Homes.{home_left}
use Rattle.rv_emit_code.specs.Ends.{holding_code, held_with, holding_held, loading_code, loading_held}
use Rattle.rv_emit_runs.specs.Settings.{with_held, IsKept, AreLoads}

-- ---- Registers that are kept

pub kept_0 : IsKept 0
kept_0 = record { left = left_0; s0 = λ e. cc; arguments = inl (omega arith) }

pub kept_2 : IsKept 2
kept_2 = record { left = left_2; s0 = λ e. cc; arguments = inl (omega arith) }

pub kept_3 : IsKept 3
kept_3 = record { left = left_3; s0 = λ e. cc; arguments = inl (omega arith) }

pub kept_4 : IsKept 4
kept_4 = record { left = record { t0 = λ e. cc; t1 = λ e. cc; t2 = λ e. cc }; s0 = λ e. cc; arguments = inl (omega arith) }

pub kept_home : (r : ℕ) → IsHomeRegister r → IsKept r
kept_home r (inl is) = record { left = home_left r (inl is); s0 = λ e. omega (arith, is, e); arguments = inl (omega (arith, is)) }
kept_home r (inr (low, high)) = record { left = home_left r (inr (low, high)); s0 = λ e. omega (arith, low, e); arguments = inr (omega (arith, low)) }

-- None of them is a0.
pub kept_no_a0 : (q : ℕ) → IsKept q → q ≢ 10
kept_no_a0 q kept = λ e. ⊎_elim (λ (l : q < 10). omega (arith, l, e)) (λ (u : 17 < q). omega (arith, u, e)) kept.arguments

-- None of them is a7.
pub kept_no_a7 : (q : ℕ) → IsKept q → q ≢ 17
kept_no_a7 q kept = λ e. ⊎_elim (λ (l : q < 10). omega (arith, l, e)) (λ (u : 17 < q). omega (arith, u, e)) kept.arguments

-- None of them is a scratch register.
pub kept_no_scratch : (q r : ℕ) → IsKept q → IsScratch r → q ≢ r
kept_no_scratch q r kept (inl is) = λ e. kept.s0 (e ∙ is)
kept_no_scratch q r kept (inr (low, high)) = λ e. ⊎_elim (λ (l : q < 10). omega (arith, l, low, e)) (λ (u : 17 < q). omega (arith, u, high, e)) kept.arguments

pub scratch_left : (r : ℕ) → IsScratch r → IsLeft r
scratch_left r (inl is) = record { t0 = λ e. omega (arith, is, e); t1 = λ e. omega (arith, is, e); t2 = λ e. omega (arith, is, e) }
scratch_left r (inr (low, high)) = record { t0 = λ e. omega (arith, low, e); t1 = λ e. omega (arith, low, e); t2 = λ e. omega (arith, low, e) }

pub scratch_some : (r : ℕ) → IsScratch r → 0 < r
scratch_some r (inl is) = omega (arith, is)
scratch_some r (inr (low, high)) = omega (arith, low)

pub all_left : (held : List Held) → AreScratch held → AreLeft held
all_left [] scratch = tt
all_left (x ∷ more) scratch = (scratch_left x.register scratch.0, all_left more scratch.1)

-- ---- The frame, where scratch registers hold other constants

array_found : (w : Setting) (c : Configuration) (h t : Holding) (held : List Held) (n : ℕ) (all : List ℕ) → t.memory ≡ h.memory → HasArray w c.memory h.memory n all → HasArray (with_held held w) c.memory t.memory n all
array_found w c h t held n all memory has = record {
  aligned = has.aligned;
  low = has.low;
  high = has.high;
  bytes = λ i lt. ap (λ (m : ℕ → ℕ). m (array_bytes_at w.storage n + i)) memory ∙ has.bytes i lt;
  apart = has.apart;
}

pub home_as_it_was : (w : Setting) (h t : Holding) (home : Home) → t.registers 2 ≡ h.registers 2 → ((r : ℕ) → IsHomeRegister r → t.registers r ≡ h.registers r) → t.memory ≡ h.memory → IsHomeAmong w.slots home → value_of_home w.storage t home ≡ value_of_home w.storage h home
home_as_it_was w h t (Register r) sp homes memory among = homes r among
home_as_it_was w h t (Slot k) sp homes memory among = ap (λ s. word_at t.memory (s + slot_at w.storage k)) sp ∙ ap (λ (m : ℕ → ℕ). word_at m (h.registers 2 + slot_at w.storage k)) memory

-- The frame stands where x0, sp, gp, registers that may be homes and memory are as they were, with what scratch registers hold then.
pub frame_found : (w : Setting) (c : Configuration) (h t : Holding) (held : List Held) → t.registers 0 ≡ h.registers 0 → t.registers 2 ≡ h.registers 2 → t.registers 3 ≡ h.registers 3 → ((r : ℕ) → IsHomeRegister r → t.registers r ≡ h.registers r) → t.regions ≡ h.regions → t.memory ≡ h.memory
    → HoldsAll held t → AreScratch held → HoldsFrame w c h → HoldsFrame (with_held held w) c t
frame_found w c h t held none sp gp homes same_map memory all scratch frame = record {
  fetch = record { fits = frame.fetch.fits; none = none ∙ frame.fetch.none; gp = gp ∙ frame.fetch.gp; all = all; left = all_left held scratch };
  scratch = scratch;
  aligned = ap (λ s. s % 4) sp ∙ frame.aligned;
  map = same_map ∙ frame.map;
  low = subst (λ s. stack_start (map_of_unit w.unit) ≤ s) (sym sp) frame.low;
  high = subst (λ s. s + w.size ≤ stack_end (map_of_unit w.unit)) (sym sp) frame.high;
  homes = λ home among. subst (λ x. Means w.addresses c.memory (c.here.names (home_number home)) x) (sym (home_as_it_was w h t home sp homes memory among)) (frame.homes home among);
  objects = subst (λ (m : ℕ → ℕ). HoldsObjects w.addresses c.memory m) (sym memory) frame.objects;
  laid = frame.laid;
  free = λ n o is live. subst (λ s. (w.addresses n + bytes_of o ≤ s) ⊎ (s + (w.storage.slots + 4 * w.slots) ≤ w.addresses n)) (sym sp) (frame.free n o is live);
  own = λ k lt. frame.own k lt ∙ ap (λ s. s + object_at w.storage k) (sym sp);
  static = frame.static;
  arrays = λ n all_bytes is. array_found w c h t held n all_bytes memory (frame.arrays n all_bytes is);
}

-- So it does where registers but t0 to t2, s0 and a0 to a7 are as they were.
pub frame_reheld : (w : Setting) (c : Configuration) (h t : Holding) (held : List Held) → ((q : ℕ) → IsKept q → t.registers q ≡ h.registers q) → t.regions ≡ h.regions → t.memory ≡ h.memory → HoldsAll held t → AreScratch held → HoldsFrame w c h → HoldsFrame (with_held held w) c t
frame_reheld w c h t held kept same_map memory all scratch frame = frame_found w c h t held (kept 0 kept_0) (kept 2 kept_2) (kept 3 kept_3) (λ r is. kept r (kept_home r is)) same_map memory all scratch frame

-- ---- What scratch registers hold

pub held_forgotten : (r : ℕ) (held : List Held) (h t : Holding) → ((q : ℕ) → q ≢ r → q ≢ 5 → t.registers q ≡ h.registers q) → AreLeft held → HoldsAll held h → HoldsAll (forgotten r held) t
held_forgotten r [] h t kept left all = tt
held_forgotten r (x ∷ more) h t kept left all = by_test (held_forgotten r more h t kept left.1 all.1) (x.register == r) refl
  where
    by_test : HoldsAll (forgotten r more) t → (b : Bool) → (x.register == r) ≡ b → HoldsAll (cond (not b) (x ∷ forgotten r more) (forgotten r more)) t
    by_test later true e = later
    by_test later false e = (kept x.register (λ same. cc (eq-eqb x.register r same)) left.0.t0 ∙ all.0, later)

pub scratch_forgotten : (r : ℕ) (held : List Held) → AreScratch held → AreScratch (forgotten r held)
scratch_forgotten r [] scratch = tt
scratch_forgotten r (x ∷ more) scratch = by_test (scratch_forgotten r more scratch.1) (x.register == r)
  where
    by_test : AreScratch (forgotten r more) → (b : Bool) → AreScratch (cond (not b) (x ∷ forgotten r more) (forgotten r more))
    by_test later true = later
    by_test later false = (scratch.0, later)

held_one_more : (held : List Held) (x : Held) (h : Holding) → HoldsAll held h → h.registers x.register ≡ x.word → HoldsAll (held ++ x ∷ []) h
held_one_more [] x h all is = (is, tt)
held_one_more (y ∷ held) x h all is = (all.0, held_one_more held x h all.1 is)

scratch_one_more : (held : List Held) (x : Held) → AreScratch held → IsScratch x.register → AreScratch (held ++ x ∷ [])
scratch_one_more [] x scratch is = (is, tt)
scratch_one_more (y ∷ held) x scratch is = (scratch.0, scratch_one_more held x scratch.1 is)

scratch_no_a0 : (r : ℕ) → IsScratch r → r ≢ 10
scratch_no_a0 r (inl is) = λ e. omega (arith, is, e)
scratch_no_a0 r (inr (low, high)) = λ e. omega (arith, low, e)

-- Where no other register than a0 is written.
pub held_but_a0 : (held : List Held) (h t : Holding) → ((q : ℕ) → q ≢ 10 → t.registers q ≡ h.registers q) → AreScratch held → HoldsAll held h → HoldsAll held t
held_but_a0 [] h t kept scratch all = tt
held_but_a0 (x ∷ more) h t kept scratch all = (kept x.register (scratch_no_a0 x.register scratch.0) ∙ all.0, held_but_a0 more h t kept scratch.1 all.1)

-- Behind words these constants are held. Registers but t0 and scratch registers, memory and input are as they were.
pub record Loads (code : List Instruction) (h : Holding) (later : List Held) : Type 0 where
  pub can : CanDoAll code h
  pub all : HoldsAll later (done_by_all code h)
  pub scratch : AreScratch later
  pub kept : (q : ℕ) → IsKept q → (done_by_all code h).registers q ≡ h.registers q
  pub memory : (done_by_all code h).memory ≡ h.memory
  pub input : (done_by_all code h).input ≡ h.input

-- A register comes to hold a constant.
module _ (h : Holding) (base : ℕ) (none : h.registers 0 ≡ 0) (gp : h.registers 3 ≡ base) (within : base < 4294967296) (held : List Held) (all : HoldsAll held h) (scratch : AreScratch held) where
  one_loads : (x : Held) → IsScratch x.register → x.word < 4294967296 → Loads (holding_code x base held) h (holding_held x held)
  one_loads x is fits = by_holder (holder_of x.word held) refl
    where
      brought : (code : List Instruction) → Brings code h x.register x.register x.word → Loads code h (held_with x held)
      brought code brings = record {
        can = brings.can;
        all = held_one_more (forgotten x.register held) x (done_by_all code h) (held_forgotten x.register held h (done_by_all code h) brings.kept (all_left held scratch) all) brings.value;
        scratch = scratch_one_more (forgotten x.register held) x (scratch_forgotten x.register held scratch) is;
        kept = λ q kept. brings.kept q (kept_no_scratch q x.register kept is) kept.left.t0;
        memory = brings.memory;
        input = brings.input;
      }

      moved : (r : ℕ) → holder_of x.word held ≡ Some r → (b : Bool) → Loads (cond b [] (Immediate Addi x.register r 0 ∷ [])) h (cond b held (held_with x held))
      moved r found true = record { can = tt; all = all; scratch = scratch; kept = λ q kept. refl; memory = refl; input = refl }
      moved r found false =
          brought (Immediate Addi x.register r 0 ∷ [])
          (addi_brings h x.register r 0 x.word (scratch_some x.register is) (let holds : h.registers r ≡ x.word = holder_holds held h x.word r all found in omega (arith, holds, fits)))

      by_holder : (o : Option ℕ) → holder_of x.word held ≡ o
          → Loads (option_map_or (λ r. cond (r == x.register) [] (Immediate Addi x.register r 0 ∷ [])) o (constant_by (words_of_constant x.word base) x.register x.word base)) h
          (option_map_or (λ r. cond (r == x.register) held (held_with x held)) o (held_with x held))
      by_holder (Some r) found = moved r found (r == x.register)
      by_holder None found = brought (constant_by (words_of_constant x.word base) x.register x.word base) (constant_brings h x.register x.word base (scratch_some x.register is) fits within none gp)

-- Some are loaded behind others.
loads_then : (front back : List Instruction) (h : Holding) (held later : List Held) → Loads front h held → Loads back (done_by_all front h) later → Loads (front ++ back) h later
loads_then front back h held later one rest =
    let done : done_by_all (front ++ back) h ≡ done_by_all back (done_by_all front h) = done_by_both front back h in
    record {
      can = can_do_both front back h one.can rest.can;
      all = subst (λ (u : Holding). HoldsAll later u) (sym done) rest.all;
      scratch = rest.scratch;
      kept = λ q kept. ap (λ (u : Holding). u.registers q) done ∙ rest.kept q kept ∙ one.kept q kept;
      memory = ap (λ (u : Holding). u.memory) done ∙ rest.memory ∙ one.memory;
      input = ap (λ (u : Holding). u.input) done ∙ rest.input ∙ one.input;
    }

-- All of them are loaded that there is room for.
pub loading_loads : (base room : ℕ) (loads held : List Held) (h : Holding) → h.registers 0 ≡ 0 → h.registers 3 ≡ base → base < 4294967296 → HoldsAll held h → AreScratch held → AreLoads loads
    → Loads (loading_code base room loads held) h (loading_held base room loads held)
loading_loads base room [] held h none gp within all scratch fit = record { can = tt; all = all; scratch = scratch; kept = λ q kept. refl; memory = refl; input = refl }
loading_loads base room (x ∷ more) held h none gp within all scratch (is, fits, others) =
    let one : Loads (holding_code x base held) h (holding_held x held) = one_loads h base none gp within held all scratch x is fits in
    by_test
    (loads_then (holding_code x base held) (loading_code base (room - words_of_constant x.word base) more (holding_held x held)) h (holding_held x held) (loading_held base (room - words_of_constant x.word base) more (holding_held x held)) one
    (loading_loads base (room - words_of_constant x.word base) more (holding_held x held) (done_by_all (holding_code x base held) h) (one.kept 0 kept_0 ∙ none) (one.kept 3 kept_3 ∙ gp) within one.all one.scratch others))
    (loading_loads base room more held h none gp within all scratch others)
    (nat_le (words_of_constant x.word base) room)
  where
    by_test : Loads (holding_code x base held ++ loading_code base (room - words_of_constant x.word base) more (holding_held x held)) h (loading_held base (room - words_of_constant x.word base) more (holding_held x held))
        → Loads (loading_code base room more held) h (loading_held base room more held) → (b : Bool)
        → Loads (cond b (holding_code x base held ++ loading_code base (room - words_of_constant x.word base) more (holding_held x held)) (loading_code base room more held)) h
        (cond b (loading_held base (room - words_of_constant x.word base) more (holding_held x held)) (loading_held base room more held))
    by_test with_it without true = with_it
    by_test with_it without false = without
