-- The words that set an object to zero do the unit's step.
use Rattle.std.proofs.Common.{◌≡◌, ◌≢◌, ℕ, zero, suc, ◌+◌, ◌*◌, ◌/◌, ◌%◌, ◌<◌, ◌≤◌, ◌⊎◌, ⊎_elim, inl, inr, sym, ap, ◌∙◌, subst, arith, refl, List, [], ◌∷◌, ◌++◌, length, slice_get, slice_set, Option, Some, None, Bool, true, false, cond, length-append, append_assoc}
use Rattle.std.specs.Prelude.{◌==◌, ◌||◌, ◌&&◌, nat_le, nat_lt, replicate, option_map, option_and_then}
use Rattle.std.proofs.lemmas.Bool.{eq-eqb, leb-true}
use Rattle.std.proofs.lemmas.List.{length-replicate}
use Rattle.word_base.specs.Arithmetic.{subtracted}
use Rattle.rv_code.specs.declared.instruction.Instruction.{Instruction}
use Rattle.rv_code.specs.declared.instruction.Instruction.TheVariants.{Branch, Lui, Store, Immediate, Register}
use Rattle.rv_code.specs.declared.instruction.BranchOperation.TheVariants.{Bne}
use Rattle.rv_code.specs.declared.instruction.StoreOperation.TheVariants.{Sw}
use Rattle.rv_code.specs.declared.instruction.ImmediateOperation.TheVariants.{Addi}
use Rattle.rv_code.specs.declared.instruction.RegisterOperation.TheVariants.{Add}
use Rattle.rv_emit_words.specs.Constants.{low_part, high_part}
use Rattle.rv_machine.specs.State.{MachineState}
use Rattle.graph_core.specs.declared.value.Value.{Value}
use Rattle.graph_core.specs.declared.value.Value.TheVariants.{Number}
use Rattle.graph_core.specs.declared.instruction.Element.{Element}
use Rattle.graph_core.specs.declared.instruction.Element.TheVariants.{Unsigned8, Signed8, Unsigned16, Signed16, Word}
use Rattle.graph_core.specs.Values.{size_of}
use Rattle.graph_core.specs.Memory.{Memory, Object, bytes_of, words_of, filled, with_object, zeroed}
use Rattle.graph_core.specs.Runs.{Configuration}
use Rattle.memory_map.specs.Maps.{bytes_end, bytes_start, stack_end, stack_start}
use Rattle.memory_map.proofs.Facts.{map_facts}
use Rattle.rv_emit_storage.specs.UnitMaps.{map_of_unit}
use Rattle.rv_emit_storage.specs.Storages.{object_at}
use Rattle.rv_emit_words.specs.Operands.{address_code}
use Rattle.rv_emit_instructions.specs.Filling.{zeros_code, limit_code, zero_code}
use Rattle.rv_emit_steps.specs.Holding.{Holding, IsDataAt}
use Rattle.rv_emit_steps.specs.Doing.{done_by_all, CanDoAll}
use Rattle.rv_emit_steps.specs.Programs.{Program, CodeAt, behind, Stands}
use Rattle.rv_emit_steps.specs.Points.{Reaches}
use Rattle.rv_emit_steps.proofs.Straight.{code_does}
use Rattle.rv_emit_steps.proofs.Placing.{code_front, code_rest, done_by_both, can_do_both, regions_stay, reaches_then}
use Rattle.rv_emit_steps.specs.EmitMovesDoing.{Brings, IsLeft}
use Rattle.rv_emit_steps.specs.Meaning.{bits_at, low_bits, HoldsBits}
use Rattle.rv_emit_steps.specs.Frames.{Setting, IsStorage, HoldsFrame, IsOutside}
use Rattle.rv_emit_steps.proofs.Elements.{bits_kept}
use Rattle.rv_emit_steps.proofs.Filled.{with_front, filled_framed}
use Rattle.rv_emit_steps.proofs.Limits.{address_brings, limit_brings}
use Rattle.rv_emit_steps.proofs.Looping.{LoopDone, loop_done}
use Rattle.rv_emit_steps.proofs.Zeroing.{AreZeroed, none_zeroed, Zeroes, zeros_done, zero_body, ZerosLeft, zero_turns}
use Rattle.base_laws.proofs.Booleans.{both_true}

-- ---- What the unit does

-- An object's front is replaced by these values.
pub record IsFilled (memory : Memory) (n words : ℕ) (new : Object → List Value) (later : Memory) : Type 0 where
  pub object : Object
  pub there : slice_get memory n ≡ Some object
  pub live : object.live ≡ true
  pub few : words ≤ words_of (bytes_of object)
  pub makes : slice_set memory n (record object { values = with_front (new object) object.values }) ≡ later

pub filled_is : (memory : Memory) (n words : ℕ) (new : Object → List Value) (later : Memory) → option_and_then (λ o. option_map (with_object memory n) (filled words (new o) o)) (slice_get memory n) ≡ Some later → IsFilled memory n words new later
filled_is memory n words new later found = by_object (slice_get memory n) refl found
  where
    by_test : (o : Object) → slice_get memory n ≡ Some o → (t : Bool) → (o.live && nat_le words (words_of (bytes_of o))) ≡ t
        → option_map (with_object memory n) (cond t (Some (record o { values = with_front (new o) o.values })) None) ≡ Some later → IsFilled memory n words new later
    by_test o there true is got =
        let tests = both_true o.live (nat_le words (words_of (bytes_of o))) is in
        let same : slice_set memory n (record o { values = with_front (new o) o.values }) ≡ later = cc in
        record { object = o; there = there; live = tests.0; few = leb-true words (words_of (bytes_of o)) tests.1; makes = same }
    by_test o there false is got = cc

    by_object : (o : Option Object) → slice_get memory n ≡ o → option_and_then (λ q. option_map (with_object memory n) (filled words (new q) q)) o ≡ Some later → IsFilled memory n words new later
    by_object None there got = cc
    by_object (Some o) there got = by_test o there (o.live && nat_le words (words_of (bytes_of o))) refl got

-- ---- Elements that are zero

replicate_has : (k j : ℕ) (x v : Value) → slice_get (replicate k x) j ≡ Some v → (j < k) × (v ≡ x)
replicate_has zero j x v e = cc
replicate_has (suc k) zero x v e = let same : x ≡ v = cc in (omega arith, sym same)
replicate_has (suc k) (suc j) x v e = let rest = replicate_has k j x v e in (omega (arith, rest.0), rest.1)

pub fits_in : (e : Element) (j words : ℕ) → j * size_of e + size_of e ≤ 4 * words → j < 4 * words / size_of e
fits_in Unsigned8 j words le = omega arith
fits_in Signed8 j words le = omega arith
fits_in Unsigned16 j words le = omega arith
fits_in Signed16 j words le = omega arith
fits_in Word j words le = omega arith

pub ends_in : (e : Element) (j words : ℕ) → j < 4 * words / size_of e → j * size_of e + size_of e ≤ 4 * words
ends_in Unsigned8 j words lt = omega arith
ends_in Signed8 j words lt = omega arith
ends_in Unsigned16 j words lt = omega arith
ends_in Signed16 j words lt = omega arith
ends_in Word j words lt = omega arith

zero_bits : (e : Element) (a : ℕ) → bits_at (λ b. 0) (size_of e) a ≡ low_bits (size_of e) 0
zero_bits Unsigned8 a = refl
zero_bits Signed8 a = refl
zero_bits Unsigned16 a = refl
zero_bits Signed16 a = refl
zero_bits Word a = refl

-- ---- The frame behind them

module _ (w : Setting) (c : Configuration) (h : Holding) (storage : IsStorage w) (frame : HoldsFrame w c h) (n words : ℕ) (later : Memory) (is : IsFilled c.memory n words (λ o. replicate (4 * words / size_of o.element) (Number 0)) later) where
  zeros_framed : (t : Holding) → t.regions ≡ h.regions → ((q : ℕ) → IsLeft q → t.registers q ≡ h.registers q) → AreZeroed (w.addresses n) words h.memory t.memory → HoldsFrame w (record c { memory = later }) t
  zeros_framed t regions kept zeroes =
      let o : Object = is.object in
      subst (λ m. HoldsFrame w (record c { memory = m }) t) is.makes
      (filled_framed w c h t storage frame n words is.object (replicate (4 * words / size_of is.object.element) (Number 0)) is.there is.live is.few
      (λ j le. subst (λ k. j < k) (sym (length-replicate (4 * words / size_of is.object.element) (Number 0))) (fits_in is.object.element j words le)) regions (λ q left other. kept q left) zeroes.outside
      (λ j v e. zero_held j v (replicate_has (4 * words / size_of is.object.element) j (Number 0) v e)))
    where
      zero_held : (j : ℕ) (v : Value) → (j < 4 * words / size_of is.object.element) × (v ≡ Number 0)
          → HoldsBits w.addresses c.memory (size_of is.object.element) v (bits_at t.memory (size_of is.object.element) (w.addresses n + j * size_of is.object.element))
      zero_held j v (lt, same) =
          let within = ends_in is.object.element j words lt in
          subst (λ x. HoldsBits w.addresses c.memory (size_of is.object.element) x (bits_at t.memory (size_of is.object.element) (w.addresses n + j * size_of is.object.element))) (sym same)
          (bits_kept is.object.element (λ b. 0) t.memory (w.addresses n + j * size_of is.object.element) (λ b low high. zeroes.within b (omega (arith, low)) (omega (arith, high, within)))
          ∙ zero_bits is.object.element (w.addresses n + j * size_of is.object.element))

module _ (w : Setting) (c : Configuration) (h : Holding) (storage : IsStorage w) (frame : HoldsFrame w c h) (n words : ℕ) (new : Object → List Value) (later : Memory) (is : IsFilled c.memory n words new later) where
  -- The words of an object stand in memory.
  pub words_stand : (k : ℕ) → k < words → IsDataAt (map_of_unit w.unit) 4 (w.addresses n + 4 * k)
  words_stand k lt =
      let an : w.addresses n % 4 ≡ 0 = frame.laid.aligned n is.object is.there in
      let few = is.few in (
        omega (arith, an),
        ⊎_elim
            (λ (low : (bytes_start (map_of_unit w.unit) ≤ w.addresses n) × (w.addresses n + bytes_of is.object + 4 ≤ bytes_end (map_of_unit w.unit))). inl (omega (arith, low.0), omega (arith, low.1, few, lt)))
            (λ (high : (stack_start (map_of_unit w.unit) ≤ w.addresses n) × (w.addresses n + bytes_of is.object + 4 ≤ stack_end (map_of_unit w.unit))). inr (omega (arith, high.0), omega (arith, high.1, few, lt)))
            (frame.laid.lie n is.object is.there),
      )

  pub words_fit : w.addresses n + 4 * words ≤ 2147483648
  words_fit =
      let few = is.few in
      let between = (map_facts (map_of_unit w.unit)).apart in
      let positive = (map_facts (map_of_unit w.unit)).positive in
      ⊎_elim
      (λ (low : (bytes_start (map_of_unit w.unit) ≤ w.addresses n) × (w.addresses n + bytes_of is.object + 4 ≤ bytes_end (map_of_unit w.unit))). omega (arith, low.1, few, between, positive))
      (λ (high : (stack_start (map_of_unit w.unit) ≤ w.addresses n) × (w.addresses n + bytes_of is.object + 4 ≤ stack_end (map_of_unit w.unit))). omega (arith, high.1, few, positive))
      (frame.laid.lie n is.object is.there)

-- The machine comes behind the words of an instruction, in at most so many instructions, unseen, and holds the frame of a configuration. Registers but t0 to t2 and a0, and the input, are as they were,
-- and so is memory outside of the slots and of the words of the objects that lived before.
pub record Comes (p : Program) (s : MachineState) (index : ℕ) (b : Bool) (most : ℕ) (code : List Instruction) (w : Setting) (before : Memory) (h : Holding) (d : Configuration) : Type 0 where
  pub count : ℕ
  pub few : count ≤ most
  pub holding : Holding
  pub reaches : Reaches p count (record { state = s; shown = b }) [] (index + length code) (behind b code) holding
  pub frame : HoldsFrame w d holding
  pub kept : (q : ℕ) → IsLeft q → q ≢ 10 → holding.registers q ≡ h.registers q
  pub outside : (b : ℕ) → IsOutside w (record d { memory = before }) h b → holding.memory b ≡ h.memory b
  pub input : holding.input ≡ h.input

-- ---- The words of a loop

pub behind_setup : (b : Bool) (r offset : ℕ) (more : List Instruction) → behind b (address_code r r offset ++ more) ≡ false
behind_setup b r offset more = by_tests (nat_lt offset 2048) (low_part offset == 0)
  where
    by_tests : (t z : Bool)
        → behind b (cond t (Immediate Addi r 2 offset ∷ []) (cond z (Lui r (high_part offset) ∷ Register Add r r 2 ∷ []) (Lui r (high_part offset) ∷ Immediate Addi r r (low_part offset) ∷ Register Add r r 2 ∷ [])) ++ more) ≡ false
    by_tests true z = refl
    by_tests false true = refl
    by_tests false false = refl

-- What stands behind the words that set a loop up: t1 is at the first word, and another register behind the last.
pub record IsSetUp (setup : List Instruction) (h : Holding) (limit a words : ℕ) : Type 0 where
  pub can : CanDoAll setup h
  pub at : (done_by_all setup h).registers 6 ≡ a
  pub limit_is : (done_by_all setup h).registers limit ≡ a + 4 * words
  pub kept : (q : ℕ) → q ≢ 6 → q ≢ limit → q ≢ 5 → (done_by_all setup h).registers q ≡ h.registers q
  pub memory : (done_by_all setup h).memory ≡ h.memory
  pub input : (done_by_all setup h).input ≡ h.input

pub set_up : (h : Holding) (limit offset words : ℕ) → 0 < limit → limit ≢ 6 → limit ≢ 2 → limit ≢ 0 → h.registers 0 ≡ 0 → h.registers 2 + offset + 4 * words ≤ 2147483648
    → IsSetUp (address_code 6 6 offset ++ limit_code limit (words * 4 % 4294967296)) h limit (h.registers 2 + offset) words
set_up h limit offset words some n6 n2 n0 none fits =
    let front = address_code 6 6 offset in
    let back = limit_code limit (words * 4 % 4294967296) in
    let first : Brings front h 6 6 (h.registers 2 + offset) = address_brings h 6 offset (omega arith) (λ e. cc) (omega arith) in
    let t : Holding = done_by_all front h in
    let bytes : words * 4 % 4294967296 ≡ 4 * words = omega arith in
    let at : t.registers 6 ≡ h.registers 2 + offset = first.value in
    let second : Brings back t limit limit (t.registers 6 + words * 4 % 4294967296) = limit_brings t limit (words * 4 % 4294967296) some n6 (omega arith) (first.kept 0 (λ e. cc) (λ e. cc) ∙ none) (omega (arith, at, bytes)) in
    let both : done_by_all (front ++ back) h ≡ done_by_all back t = done_by_both front back h in
    record {
      can = can_do_both front back h first.can second.can;
      at = ap (λ (u : Holding). u.registers 6) both ∙ second.kept 6 (λ e. n6 (sym e)) (λ e. cc) ∙ at;
      limit_is = ap (λ (u : Holding). u.registers limit) both ∙ second.value ∙ (omega (arith, at, bytes));
      kept = λ q m6 ml m5. ap (λ (u : Holding). u.registers q) both ∙ second.kept q ml m5 ∙ first.kept q m6 m5;
      memory = ap (λ (u : Holding). u.memory) both ∙ second.memory ∙ first.memory;
      input = ap (λ (u : Holding). u.input) both ∙ second.input ∙ first.input;
    }

-- ---- Zero

module _ (p : Program) (s : MachineState) (index : ℕ) (b : Bool) (w : Setting) (c : Configuration) (h : Holding) (storage : IsStorage w) (frame : HoldsFrame w c h) (object words : ℕ) (later : Memory) (valid : object < length w.graph.objects)
    (stands : Stands p s index h) (made : zeroed c.memory (c.here.first_object + object) words ≡ Some later) where
  is_filled : IsFilled c.memory (c.here.first_object + object) words (λ o. replicate (4 * words / size_of o.element) (Number 0)) later
  is_filled = filled_is c.memory (c.here.first_object + object) words (λ o. replicate (4 * words / size_of o.element) (Number 0)) later made

  own : w.addresses (c.here.first_object + object) ≡ h.registers 2 + object_at w.storage object
  own = frame.own object valid

  stand : (k : ℕ) → k < words → IsDataAt h.regions 4 (h.registers 2 + object_at w.storage object + 4 * k)
  stand k lt =
      subst (λ m. IsDataAt m 4 (h.registers 2 + object_at w.storage object + 4 * k)) (sym frame.map)
      (subst (λ a. IsDataAt (map_of_unit w.unit) 4 (a + 4 * k)) own (words_stand w c h storage frame (c.here.first_object + object) words (λ o. replicate (4 * words / size_of o.element) (Number 0)) later is_filled k lt))

  in_reach : h.registers 2 + object_at w.storage object + 4 * words ≤ 2147483648
  in_reach = subst (λ a. a + 4 * words ≤ 2147483648) own
      (words_fit w c h storage frame (c.here.first_object + object) words (λ o. replicate (4 * words / size_of o.element) (Number 0)) later is_filled)

  -- A byte outside of the words of live objects is none of those that are set.
  beside : (y : ℕ) → IsOutside w c h y → (y < h.registers 2 + object_at w.storage object) ⊎ (h.registers 2 + object_at w.storage object + 4 * words ≤ y)
  beside y out =
      let few = is_filled.few in
      let here = own in
      ⊎_elim
      (λ (low : y < w.addresses (c.here.first_object + object)). inl (omega (arith, low, here)))
      (λ (past : w.addresses (c.here.first_object + object) + 4 * words_of (bytes_of is_filled.object) ≤ y). inr (omega (arith, past, here, few)))
      (out.1 (c.here.first_object + object) is_filled.object is_filled.there is_filled.live)

  framed : (t : Holding) → t.regions ≡ h.regions → ((q : ℕ) → IsLeft q → t.registers q ≡ h.registers q) → AreZeroed (h.registers 2 + object_at w.storage object) words h.memory t.memory → HoldsFrame w (record c { memory = later }) t
  framed t regions kept zeroes = zeros_framed w c h storage frame (c.here.first_object + object) words later is_filled t regions kept (subst (λ a. AreZeroed a words h.memory t.memory) (sym own) zeroes)

  -- One by one.
  singly : CodeAt p index b (zeros_code (object_at w.storage object) words) → Comes p s index b (length (zeros_code (object_at w.storage object) words) + 3 * words) (zeros_code (object_at w.storage object) words) w c.memory h (record c { memory = later })
  singly there =
      let code = zeros_code (object_at w.storage object) words in
      let z : Zeroes code h (h.registers 2 + object_at w.storage object) words = zeros_done h (object_at w.storage object) words frame.fetch.none in_reach stand in
      record {
        count = length code;
        few = omega arith;
        holding = done_by_all code h;
        reaches = code_does p s index h b code stands there z.can;
        frame = framed (done_by_all code h) (regions_stay code h) (λ q left. z.kept q) z.memory;
        kept = λ q left other. z.kept q;
        outside = λ y out. z.memory.outside y (beside y out);
        input = z.input;
      }

  -- By a loop.
  abbrev setup : List Instruction
  setup = address_code 6 6 (object_at w.storage object) ++ limit_code 7 (words * 4 % 4294967296)

  abbrev loop : List Instruction
  loop = Store Sw 0 6 0 ∷ Immediate Addi 6 6 4 ∷ Branch Bne 6 7 (subtracted 0 8) ∷ []

  looping : (k : ℕ) → words ≡ suc k → CodeAt p index b (setup ++ loop) → Comes p s index b (length (setup ++ loop) + 3 * words) (setup ++ loop) w c.memory h (record c { memory = later })
  looping k more there =
      let up : IsSetUp setup h 7 (h.registers 2 + object_at w.storage object) words = set_up h 7 (object_at w.storage object) words (omega arith) (λ e. cc) (λ e. cc) (λ e. cc) frame.fetch.none in_reach in
      let t : Holding = done_by_all setup h in
      let none_behind : behind b setup ≡ false = behind_setup b 6 (object_at w.storage object) (limit_code 7 (words * 4 % 4294967296)) in
      let first = code_does p s index h b setup stands (code_front p index b setup loop there) up.can in
      let body_there : CodeAt p (index + length setup) false loop = subst (λ x. CodeAt p (index + length setup) x loop) none_behind (code_rest p index b setup loop there) in
      let start : ZerosLeft t (h.registers 2 + object_at w.storage object) words (suc k) t = record {
        done = 0;
        sum = omega (arith, more);
        at = up.at ∙ (omega arith);
        limit = up.limit_is;
        none = up.kept 0 (λ e. cc) (λ e. cc) (λ e. cc) ∙ frame.fetch.none;
        kept = λ q left. refl;
        memory = none_zeroed (h.registers 2 + object_at w.storage object) t.memory;
        input = refl;
        regions = refl;
      } in
      let done = loop_done p (index + length setup) zero_body 7 (ZerosLeft t (h.registers 2 + object_at w.storage object) words) (zero_turns t (h.registers 2 + object_at w.storage object) words in_reach
      (λ k2 lt. subst (λ m. IsDataAt m 4 (h.registers 2 + object_at w.storage object + 4 * k2)) (sym (regions_stay setup h)) (stand k2 lt))) body_there k first.state t first.stands start in
      ends k more up first none_behind done
    where
      ends : (k2 : ℕ) → words ≡ suc k2 → (up : IsSetUp setup h 7 (h.registers 2 + object_at w.storage object) words)
          → (first : Reaches p (length setup) (record { state = s; shown = b }) [] (index + length setup) (behind b setup) (done_by_all setup h)) → behind b setup ≡ false
          → LoopDone p first.state (index + length setup) ((2 + 1) * (k2 + 1)) (index + length setup + 2 + 1) (ZerosLeft (done_by_all setup h) (h.registers 2 + object_at w.storage object) words)
          → Comes p s index b (length (setup ++ loop) + 3 * words) (setup ++ loop) w c.memory h (record c { memory = later })
      ends k2 m up first none_behind done =
          let t : Holding = done_by_all setup h in
          let u : Holding = done.holding in
          let second : Reaches p ((2 + 1) * (k2 + 1)) (record { state = first.state; shown = behind b setup }) [] (index + length setup + 2 + 1) false u =
          subst (λ x. Reaches p ((2 + 1) * (k2 + 1)) (record { state = first.state; shown = x }) [] (index + length setup + 2 + 1) false u) (sym none_behind) done.reaches in
          let all = reaches_then p (length setup) ((2 + 1) * (k2 + 1)) (record { state = s; shown = b }) [] (index + length setup) (behind b setup) t [] (index + length setup + 2 + 1) false u first second in
          let size : length (setup ++ loop) ≡ length setup + 3 = length-append setup loop in
          let end : index + length setup + 2 + 1 ≡ index + length (setup ++ loop) = omega (arith, size) in
          let none : false ≡ behind b (setup ++ loop) =
          sym (ap (behind b) (append_assoc (address_code 6 6 (object_at w.storage object)) (limit_code 7 (words * 4 % 4294967296)) loop) ∙ behind_setup b 6 (object_at w.storage object) (limit_code 7 (words * 4 % 4294967296) ++ loop)) in
          let kept : (q : ℕ) → IsLeft q → u.registers q ≡ h.registers q = λ q left. done.left.kept q left ∙ up.kept q left.t1 left.t2 left.t0 in
          let full : done.left.done ≡ words = let sum = done.left.sum in omega (arith, sum) in
          let set : AreZeroed (h.registers 2 + object_at w.storage object) words h.memory u.memory =
          subst (λ m2. AreZeroed (h.registers 2 + object_at w.storage object) words m2 u.memory) up.memory (subst (λ d. AreZeroed (h.registers 2 + object_at w.storage object) d t.memory u.memory) full done.left.memory) in
          record {
            count = length setup + (2 + 1) * (k2 + 1);
            few = omega (arith, size, m);
            holding = u;
            reaches = subst (λ x. Reaches p (length setup + (2 + 1) * (k2 + 1)) (record { state = s; shown = b }) [] (index + length (setup ++ loop)) x u) none
                (subst (λ i. Reaches p (length setup + (2 + 1) * (k2 + 1)) (record { state = s; shown = b }) [] i false u) end all);
            frame = framed u (done.left.regions ∙ regions_stay setup h) kept set;
            kept = λ q left other. kept q left;
            outside = λ y out. set.outside y (beside y out);
            input = done.left.input ∙ up.input;
          }

  -- The words of the instruction.
  pub zero_comes : CodeAt p index b (zero_code w.storage object words) → Comes p s index b (length (zero_code w.storage object words) + 3 * words) (zero_code w.storage object words) w c.memory h (record c { memory = later })
  zero_comes = by_tests (words == 0) (nat_le words 4 && nat_lt (object_at w.storage object) 2032) refl
    where
      by_count : (k : ℕ) → words ≡ k → (words == 0) ≡ false → CodeAt p index b (setup ++ loop) → Comes p s index b (length (setup ++ loop) + 3 * words) (setup ++ loop) w c.memory h (record c { memory = later })
      by_count zero e is there = let clash : true ≡ false = sym (eq-eqb words 0 e) ∙ is in cc
      by_count (suc k) e is there = looping k e there

      by_tests : (z m : Bool) → (words == 0) ≡ z → CodeAt p index b (cond (z || m) (zeros_code (object_at w.storage object) words) (setup ++ loop))
          → Comes p s index b (length (cond (z || m) (zeros_code (object_at w.storage object) words) (setup ++ loop)) + 3 * words) (cond (z || m) (zeros_code (object_at w.storage object) words) (setup ++ loop)) w c.memory h (record c { memory = later })
      by_tests true m is there = singly there
      by_tests false true is there = singly there
      by_tests false false is there = by_count words refl is there
