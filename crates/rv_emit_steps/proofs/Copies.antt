-- The words that copy an array's first bytes to an object do the unit's step.
use Rattle.std.proofs.Common.{◌≡◌, ◌≢◌, ℕ, zero, suc, ◌+◌, ◌*◌, ◌/◌, ◌%◌, ◌<◌, ◌≤◌, ◌⊎◌, ⊎_elim, inl, inr, sym, ap, ◌∙◌, subst, arith, refl, List, [], ◌∷◌, ◌++◌, length, take, drop, slice_get, Some, None, Bool, true, false, cond, length-append, append_assoc}
use Rattle.std.specs.Prelude.{◌==◌, nat_le, slice_index, option_map, option_and_then}
use Rattle.std.proofs.lemmas.Bool.{eqb-true, eq-eqb, leb-true}
use Rattle.word_base.specs.Arithmetic.{subtracted}
use Rattle.rv_code.specs.declared.instruction.Instruction.{Instruction}
use Rattle.rv_code.specs.declared.instruction.Instruction.TheVariants.{Branch, Load, Store, Immediate}
use Rattle.rv_code.specs.declared.instruction.BranchOperation.TheVariants.{Bne}
use Rattle.rv_code.specs.declared.instruction.LoadOperation.TheVariants.{Lw}
use Rattle.rv_code.specs.declared.instruction.StoreOperation.TheVariants.{Sw}
use Rattle.rv_code.specs.declared.instruction.ImmediateOperation.TheVariants.{Addi}
use Rattle.rv_machine.specs.State.{MachineState}
use Rattle.graph_core.specs.declared.value.Value.{Value}
use Rattle.graph_core.specs.declared.value.Value.TheVariants.{Number}
use Rattle.graph_core.specs.declared.instruction.Element.{Element}
use Rattle.graph_core.specs.declared.instruction.Element.TheVariants.{Unsigned8, Signed8, Unsigned16, Signed16, Word}
use Rattle.graph_core.specs.Values.{size_of, as_element}
use Rattle.graph_core.specs.Memory.{Memory, Object, bytes_of, words_of, filled, with_object, copied, spelled, element_in, elements_from}
use Rattle.graph_core.specs.Runs.{Configuration}
use Rattle.memory_map.proofs.Facts.{map_facts}
use Rattle.rv_emit_storage.specs.UnitMaps.{map_of_unit}
use Rattle.rv_emit_storage.specs.Storages.{object_at, array_bytes_at}
use Rattle.rv_emit_words.specs.Constants.{set_constant_code}
use Rattle.rv_emit_words.specs.Operands.{address_code}
use Rattle.rv_emit_instructions.specs.Filling.{limit_code, copy_code}
use Rattle.rv_emit_steps.specs.Holding.{Holding, half_at, word_at, IsDataAt}
use Rattle.rv_emit_steps.specs.Doing.{done_by_all, CanDoAll}
use Rattle.rv_emit_steps.specs.Programs.{Program, CodeAt, behind, Stands}
use Rattle.rv_emit_steps.specs.Points.{Reaches}
use Rattle.rv_emit_steps.proofs.Straight.{code_does}
use Rattle.rv_emit_steps.proofs.Placing.{code_front, code_rest, done_by_both, can_do_both, regions_stay, reaches_then}
use Rattle.rv_emit_steps.specs.EmitMovesDoing.{Brings, CanFetch, IsLeft}
use Rattle.rv_emit_steps.proofs.Computing.{can_fetch_stays}
use Rattle.rv_emit_steps.proofs.Moves.{constant_set}
use Rattle.rv_emit_steps.specs.Meaning.{bits_at, low_bits, HoldsBits}
use Rattle.rv_emit_steps.specs.Frames.{Setting, IsStorage, HasArray, HoldsFrame, IsOutside}
use Rattle.rv_emit_steps.proofs.Elements.{kept_means}
use Rattle.rv_emit_steps.proofs.Filled.{filled_framed}
use Rattle.rv_emit_steps.proofs.Limits.{address_brings, limit_brings}
use Rattle.rv_emit_steps.proofs.Looping.{LoopDone, loop_done}
use Rattle.rv_emit_steps.proofs.Spelled.{spelled_1, spelled_2, spelled_4, elements_length, elements_have}
use Rattle.rv_emit_steps.proofs.Copying.{AreCopied, none_copied, copy_body, CopiesLeft, copy_turns}
use Rattle.rv_emit_steps.proofs.Zeros.{IsFilled, filled_is, fits_in, ends_in, words_stand, words_fit, behind_setup, Comes}

-- ---- Elements

-- The bits of an element that stand in memory are those that an array's bytes spell.
element_bits : (e : Element) (all : List ℕ) (j a : ℕ) (m : ℕ → ℕ) → ((b : ℕ) → m b < 256) → ((i : ℕ) → i < size_of e → m (a + i) ≡ slice_index all (j * size_of e + i))
    → bits_at m (size_of e) a ≡ low_bits (size_of e) (spelled (take (size_of e) (drop (j * size_of e) all)))
element_bits e all j a m small same = by e same
  where
    first : (k : ℕ) → m (a + 0) ≡ slice_index all (k + 0) → m a ≡ slice_index all k
    first k h = let e0 : a ≡ a + 0 = omega arith in let e1 : k + 0 ≡ k = omega arith in ap m e0 ∙ h ∙ ap (slice_index all) e1

    one : (k : ℕ) → m (a + 0) ≡ slice_index all (k + 0) → m a ≡ spelled (take 1 (drop k all)) % 256
    one k h = let s0 = small a in let f = first k h in let n = spelled_1 all k in omega (arith, s0, f, n)

    two : (k : ℕ) → m (a + 0) ≡ slice_index all (k + 0) → m (a + 1) ≡ slice_index all (k + 1) → half_at m a ≡ spelled (take 2 (drop k all)) % 65536
    two k h g = let s0 = small a in let s1 = small (a + 1) in let f = first k h in let n = spelled_2 all k in omega (arith, s0, s1, f, g, n)

    four : (k : ℕ) → m (a + 0) ≡ slice_index all (k + 0) → m (a + 1) ≡ slice_index all (k + 1) → m (a + 2) ≡ slice_index all (k + 2) → m (a + 3) ≡ slice_index all (k + 3) → word_at m a ≡ spelled (take 4 (drop k all))
    four k h0 h1 h2 h3 = let f = first k h0 in let n = spelled_4 all k in omega (arith, f, h1, h2, h3, n)

    by : (x : Element) → ((i : ℕ) → i < size_of x → m (a + i) ≡ slice_index all (j * size_of x + i)) → bits_at m (size_of x) a ≡ low_bits (size_of x) (spelled (take (size_of x) (drop (j * size_of x) all)))
    by Unsigned8 h = one (j * 1) (h 0 (omega arith))
    by Signed8 h = one (j * 1) (h 0 (omega arith))
    by Unsigned16 h = two (j * 2) (h 0 (omega arith)) (h 1 (omega arith))
    by Signed16 h = two (j * 2) (h 0 (omega arith)) (h 1 (omega arith))
    by Word h = four (j * 4) (h 0 (omega arith)) (h 1 (omega arith)) (h 2 (omega arith)) (h 3 (omega arith))

-- ---- What the unit does

pub record IsCopied (memory : Memory) (n words : ℕ) (all : List ℕ) (later : Memory) : Type 0 where
  pub few_bytes : words ≤ words_of (length all)
  pub filling : IsFilled memory n words (λ o. elements_from all o.element 0 (4 * words / size_of o.element)) later

copied_is : (memory : Memory) (n words : ℕ) (all : List ℕ) (later : Memory) → copied memory n all words ≡ Some later → IsCopied memory n words all later
copied_is memory n words all later found = by_test (nat_le words (words_of (length all))) refl found
  where
    by_test : (t : Bool) → nat_le words (words_of (length all)) ≡ t
        → cond t (option_and_then (λ (o : Object). option_map (with_object memory n) (filled words (elements_from all o.element 0 (4 * words / size_of o.element)) o)) (slice_get memory n)) None ≡ Some later → IsCopied memory n words all later
    by_test true is got = record { few_bytes = leb-true words (words_of (length all)) is; filling = filled_is memory n words (λ o. elements_from all o.element 0 (4 * words / size_of o.element)) later got }
    by_test false is got = cc

-- ---- The frame behind them

module _ (w : Setting) (c : Configuration) (h : Holding) (storage : IsStorage w) (frame : HoldsFrame w c h) (n words : ℕ) (all : List ℕ) (source : ℕ) (later : Memory) (is : IsCopied c.memory n words all later) (has : HasArray w c.memory h.memory source all) where
  copies_framed : (t : Holding) → t.regions ≡ h.regions → ((b : ℕ) → t.memory b < 256) → ((q : ℕ) → IsLeft q → q ≢ 10 → t.registers q ≡ h.registers q) → AreCopied (w.addresses n) (array_bytes_at w.storage source) words h.memory t.memory
      → HoldsFrame w (record c { memory = later }) t
  copies_framed t regions small kept copies =
      subst (λ m. HoldsFrame w (record c { memory = m }) t) is.filling.makes
      (filled_framed w c h t storage frame n words is.filling.object (elements_from all is.filling.object.element 0 (4 * words / size_of is.filling.object.element)) is.filling.there is.filling.live is.filling.few
      (λ j le. subst (λ k. j < k) (sym (elements_length all is.filling.object.element 0 (4 * words / size_of is.filling.object.element))) (fits_in is.filling.object.element j words le)) regions kept copies.outside
      (λ j v e. held j v (elements_have all is.filling.object.element 0 (4 * words / size_of is.filling.object.element) j v e)))
    where
      held : (j : ℕ) (v : Value) → (j < 4 * words / size_of is.filling.object.element) × (v ≡ element_in all is.filling.object.element (0 + j))
          → HoldsBits w.addresses c.memory (size_of is.filling.object.element) v (bits_at t.memory (size_of is.filling.object.element) (w.addresses n + j * size_of is.filling.object.element))
      held j v (lt, same) =
          let e : Element = is.filling.object.element in
          let number : ℕ = spelled (take (size_of e) (drop (j * size_of e) all)) in
          let within = ends_in is.filling.object.element j words lt in
          let few_bytes = is.few_bytes in
          let zero_plus : 0 + j ≡ j = omega arith in
          let bits : bits_at t.memory (size_of e) (w.addresses n + j * size_of e) ≡ low_bits (size_of e) number =
          element_bits e all j (w.addresses n + j * size_of e) t.memory small
          (λ i less. (let place : w.addresses n + j * size_of e + i ≡ w.addresses n + (j * size_of e + i) = omega arith in
          ap t.memory place ∙ copies.within (j * size_of e + i) (omega (arith, less, within)) ∙ has.bytes (j * size_of e + i) (omega (arith, less, within, few_bytes)))) in
          subst (λ x. HoldsBits w.addresses c.memory (size_of e) x (bits_at t.memory (size_of e) (w.addresses n + j * size_of e))) (sym (same ∙ ap (element_in all e) zero_plus))
          (subst (λ y. HoldsBits w.addresses c.memory (size_of e) (as_element e (Number number)) y) (sym bits) (kept_means w.addresses c.memory e (Number number) number refl))

-- ---- The words

-- What stands behind the words that set the loop up: t1 is at the first word of the object, t2 at that of the array's bytes, and a0 behind the last word of the object.
record IsCopySetUp (setup : List Instruction) (h : Holding) (to from words : ℕ) : Type 0 where
  can : CanDoAll setup h
  at : (done_by_all setup h).registers 6 ≡ to
  source : (done_by_all setup h).registers 7 ≡ from
  limit_is : (done_by_all setup h).registers 10 ≡ to + 4 * words
  kept : (q : ℕ) → IsLeft q → q ≢ 10 → (done_by_all setup h).registers q ≡ h.registers q
  memory : (done_by_all setup h).memory ≡ h.memory
  input : (done_by_all setup h).input ≡ h.input

copy_set_up : (w : Setting) (h : Holding) (offset from words : ℕ) → CanFetch w.storage w.held h → from < 4294967296 → h.registers 2 + offset + 4 * words ≤ 2147483648
    → IsCopySetUp (address_code 6 6 offset ++ set_constant_code 7 from w.storage.base w.held ++ limit_code 10 (words * 4 % 4294967296)) h (h.registers 2 + offset) from words
copy_set_up w h offset from words can low fits =
    let a = address_code 6 6 offset in
    let b = set_constant_code 7 from w.storage.base w.held in
    let d = limit_code 10 (words * 4 % 4294967296) in
    let first : Brings a h 6 6 (h.registers 2 + offset) = address_brings h 6 offset (omega arith) (λ e. cc) (omega arith) in
    let t : Holding = done_by_all a h in
    let can_t : CanFetch w.storage w.held t = can_fetch_stays w.storage w.held h t (λ q left. first.kept q left.t1 left.t0) can in
    let second : Brings b t 7 7 from = constant_set w.held t w.storage 7 from (omega arith) low can_t in
    let u : Holding = done_by_all b t in
    let bytes : words * 4 % 4294967296 ≡ 4 * words = omega arith in
    let at : u.registers 6 ≡ h.registers 2 + offset = second.kept 6 (λ e. cc) (λ e. cc) ∙ first.value in
    let third : Brings d u 10 10 (u.registers 6 + words * 4 % 4294967296) = limit_brings u 10 (words * 4 % 4294967296) (omega arith) (λ e. cc) (omega arith) (second.kept 0 (λ e. cc) (λ e. cc) ∙ can_t.none) (omega (arith, at, bytes)) in
    let both : done_by_all (a ++ b ++ d) h ≡ done_by_all d u = done_by_both (a ++ b) d h ∙ ap (done_by_all d) (done_by_both a b h) in
    record {
      can = can_do_both (a ++ b) d h (can_do_both a b h first.can second.can) (subst (CanDoAll d) (sym (done_by_both a b h)) third.can);
      at = ap (λ (x : Holding). x.registers 6) both ∙ third.kept 6 (λ e. cc) (λ e. cc) ∙ at;
      source = ap (λ (x : Holding). x.registers 7) both ∙ third.kept 7 (λ e. cc) (λ e. cc) ∙ second.value;
      limit_is = ap (λ (x : Holding). x.registers 10) both ∙ third.value ∙ (omega (arith, at, bytes));
      kept = λ q left other. ap (λ (x : Holding). x.registers q) both ∙ third.kept q other left.t0 ∙ second.kept q left.t2 left.t0 ∙ first.kept q left.t1 left.t0;
      memory = ap (λ (x : Holding). x.memory) both ∙ third.memory ∙ second.memory ∙ first.memory;
      input = ap (λ (x : Holding). x.input) both ∙ third.input ∙ second.input ∙ first.input;
    }

module _ (p : Program) (s : MachineState) (index : ℕ) (b : Bool) (w : Setting) (c : Configuration) (h : Holding) (storage : IsStorage w) (frame : HoldsFrame w c h) (object source words : ℕ) (all : List ℕ) (later : Memory) (valid : object < length w.graph.objects)
    (there : slice_get w.unit.array_bytes source ≡ Some all) (stands : Stands p s index h) (made : copied c.memory (c.here.first_object + object) all words ≡ Some later) where
  is_copied : IsCopied c.memory (c.here.first_object + object) words all later
  is_copied = copied_is c.memory (c.here.first_object + object) words all later made

  has : HasArray w c.memory h.memory source all
  has = frame.arrays source all there

  own : w.addresses (c.here.first_object + object) ≡ h.registers 2 + object_at w.storage object
  own = frame.own object valid

  abbrev to : ℕ
  to = h.registers 2 + object_at w.storage object

  abbrev from : ℕ
  from = array_bytes_at w.storage source

  to_stands : (k : ℕ) → k < words → IsDataAt (map_of_unit w.unit) 4 (to + 4 * k)
  to_stands k lt = subst (λ a. IsDataAt (map_of_unit w.unit) 4 (a + 4 * k)) own (words_stand w c h storage frame (c.here.first_object + object) words (λ o. elements_from all o.element 0 (4 * words / size_of o.element)) later is_copied.filling k lt)

  from_stands : (k : ℕ) → k < words → IsDataAt (map_of_unit w.unit) 4 (from + 4 * k)
  from_stands k lt = let few = is_copied.few_bytes in let low = has.low in let high = has.high in let aligned = has.aligned in (omega (arith, aligned), inl (omega (arith, low), omega (arith, high, few, lt)))

  to_fits : to + 4 * words ≤ 2147483648
  to_fits = subst (λ a. a + 4 * words ≤ 2147483648) own (words_fit w c h storage frame (c.here.first_object + object) words (λ o. elements_from all o.element 0 (4 * words / size_of o.element)) later is_copied.filling)

  from_fits : from + 4 * words ≤ 2147483648
  from_fits =
      let few = is_copied.few_bytes in
      let high = has.high in
      let between = (map_facts (map_of_unit w.unit)).apart in
      let positive = (map_facts (map_of_unit w.unit)).positive in
      omega (arith, high, few, between, positive)

  apart : (from + 4 * words ≤ to) ⊎ (to + 4 * words ≤ from)
  apart =
      let few = is_copied.few_bytes in
      let fill = is_copied.filling.few in
      let here = own in
      ⊎_elim
      (λ (below : w.addresses (c.here.first_object + object) + 4 * words_of (bytes_of is_copied.filling.object) ≤ array_bytes_at w.storage source). inr (omega (arith, below, fill, here)))
      (λ (above : array_bytes_at w.storage source + 4 * words_of (length all) ≤ w.addresses (c.here.first_object + object)). inl (omega (arith, above, few, here)))
      (has.apart (c.here.first_object + object) is_copied.filling.object is_copied.filling.there is_copied.filling.live)

  -- A byte outside of the words of live objects is none of those that are set.
  beside : (y : ℕ) → IsOutside w c h y → (y < to) ⊎ (to + 4 * words ≤ y)
  beside y out =
      let few = is_copied.filling.few in
      let here = own in
      ⊎_elim
      (λ (low : y < w.addresses (c.here.first_object + object)). inl (omega (arith, low, here)))
      (λ (past : w.addresses (c.here.first_object + object) + 4 * words_of (bytes_of is_copied.filling.object) ≤ y). inr (omega (arith, past, here, few)))
      (out.1 (c.here.first_object + object) is_copied.filling.object is_copied.filling.there is_copied.filling.live)

  framed : (t : Holding) → t.regions ≡ h.regions → ((x : ℕ) → t.memory x < 256) → ((q : ℕ) → IsLeft q → q ≢ 10 → t.registers q ≡ h.registers q) → AreCopied to from words h.memory t.memory → HoldsFrame w (record c { memory = later }) t
  framed t regions small kept copies = copies_framed w c h storage frame (c.here.first_object + object) words all source later is_copied has t regions small kept (subst (λ a. AreCopied a from words h.memory t.memory) (sym own) copies)

  abbrev setup : List Instruction
  setup = address_code 6 6 (object_at w.storage object) ++ set_constant_code 7 (array_bytes_at w.storage source) w.storage.base w.held ++ limit_code 10 (words * 4 % 4294967296)

  abbrev loop : List Instruction
  loop = Load Lw 5 7 0 ∷ Store Sw 5 6 0 ∷ Immediate Addi 7 7 4 ∷ Immediate Addi 6 6 4 ∷ Branch Bne 6 10 (subtracted 0 16) ∷ []

  setup_behind : (more : List Instruction) → behind b (setup ++ more) ≡ false
  setup_behind more =
      ap (behind b)
      (append_assoc (address_code 6 6 (object_at w.storage object) ++ set_constant_code 7 (array_bytes_at w.storage source) w.storage.base w.held) (limit_code 10 (words * 4 % 4294967296)) more
      ∙ append_assoc (address_code 6 6 (object_at w.storage object)) (set_constant_code 7 (array_bytes_at w.storage source) w.storage.base w.held) (limit_code 10 (words * 4 % 4294967296) ++ more))
      ∙ behind_setup b 6 (object_at w.storage object) (set_constant_code 7 (array_bytes_at w.storage source) w.storage.base w.held ++ (limit_code 10 (words * 4 % 4294967296) ++ more))

  none_behind : behind b setup ≡ false
  none_behind = ap (behind b) (append_assoc (address_code 6 6 (object_at w.storage object)) (set_constant_code 7 (array_bytes_at w.storage source) w.storage.base w.held) (limit_code 10 (words * 4 % 4294967296)))
      ∙ behind_setup b 6 (object_at w.storage object) (set_constant_code 7 (array_bytes_at w.storage source) w.storage.base w.held ++ limit_code 10 (words * 4 % 4294967296))

  ends : (k : ℕ) → words ≡ suc k → IsCopySetUp setup h to from words → (first : Reaches p (length setup) (record { state = s; shown = b }) [] (index + length setup) (behind b setup) (done_by_all setup h))
      → LoopDone p first.state (index + length setup) ((4 + 1) * (k + 1)) (index + length setup + 4 + 1) (CopiesLeft (done_by_all setup h) to from words)
      → Comes p s index b (length (setup ++ loop) + 5 * words) (setup ++ loop) w c.memory h (record c { memory = later })
  ends k m up first done =
      let t : Holding = done_by_all setup h in
      let u : Holding = done.holding in
      let second : Reaches p ((4 + 1) * (k + 1)) (record { state = first.state; shown = behind b setup }) [] (index + length setup + 4 + 1) false u =
      subst (λ x. Reaches p ((4 + 1) * (k + 1)) (record { state = first.state; shown = x }) [] (index + length setup + 4 + 1) false u) (sym none_behind) done.reaches in
      let whole = reaches_then p (length setup) ((4 + 1) * (k + 1)) (record { state = s; shown = b }) [] (index + length setup) (behind b setup) t [] (index + length setup + 4 + 1) false u first second in
      let size : length (setup ++ loop) ≡ length setup + 5 = length-append setup loop in
      let end : index + length setup + 4 + 1 ≡ index + length (setup ++ loop) = omega (arith, size) in
      let kept : (q : ℕ) → IsLeft q → q ≢ 10 → u.registers q ≡ h.registers q = λ q left other. done.left.kept q left ∙ up.kept q left other in
      let full : done.left.done ≡ words = let sum = done.left.sum in omega (arith, sum) in
      let set : AreCopied to from words h.memory u.memory = subst (λ m2. AreCopied to from words m2 u.memory) up.memory (subst (λ d. AreCopied to from d t.memory u.memory) full done.left.memory) in
      record {
        count = length setup + (4 + 1) * (k + 1);
        few = omega (arith, size, m);
        holding = u;
        reaches = subst (λ x. Reaches p (length setup + (4 + 1) * (k + 1)) (record { state = s; shown = b }) [] (index + length (setup ++ loop)) x u) (sym (setup_behind loop))
            (subst (λ i. Reaches p (length setup + (4 + 1) * (k + 1)) (record { state = s; shown = b }) [] i false u) end whole);
        frame = framed u (done.left.regions ∙ regions_stay setup h) done.left.small kept set;
        kept = kept;
        outside = λ y out. set.outside y (beside y out);
        input = done.left.input ∙ up.input;
      }

  looping : (k : ℕ) → words ≡ suc k → CodeAt p index b (setup ++ loop) → Comes p s index b (length (setup ++ loop) + 5 * words) (setup ++ loop) w c.memory h (record c { memory = later })
  looping k more code =
      let reach = from_fits in
      let up : IsCopySetUp setup h to from words = copy_set_up w h (object_at w.storage object) from words frame.fetch (omega (arith, reach)) to_fits in
      let t : Holding = done_by_all setup h in
      let first = code_does p s index h b setup stands (code_front p index b setup loop code) up.can in
      let body_there : CodeAt p (index + length setup) false loop = subst (λ x. CodeAt p (index + length setup) x loop) none_behind (code_rest p index b setup loop code) in
      let behind_map : map_of_unit w.unit ≡ t.regions = sym (regions_stay setup h ∙ frame.map) in
      let start : CopiesLeft t to from words (suc k) t = record {
        done = 0;
        sum = omega (arith, more);
        at = up.at ∙ (omega arith);
        source = up.source ∙ (omega arith);
        limit = up.limit_is;
        small = first.stands.in_range.bytes;
        kept = λ q left. refl;
        memory = none_copied to from t.memory;
        input = refl;
        regions = refl;
      } in
      ends k more up first
      (loop_done p (index + length setup) copy_body 10 (CopiesLeft t to from words) (copy_turns t to from words to_fits from_fits apart
      (λ k2 lt. subst (λ m. IsDataAt m 4 (to + 4 * k2)) behind_map (to_stands k2 lt)) (λ k2 lt. subst (λ m. IsDataAt m 4 (from + 4 * k2)) behind_map (from_stands k2 lt))) body_there k first.state t first.stands start)

  -- The words of the instruction.
  pub copy_comes : CodeAt p index b (copy_code w.storage w.held object source words) → Comes p s index b (length (copy_code w.storage w.held object source words) + 5 * words) (copy_code w.storage w.held object source words) w c.memory h (record c { memory = later })
  copy_comes = by_test (words == 0) refl
    where
      by_count : (k : ℕ) → words ≡ k → (words == 0) ≡ false → CodeAt p index b (setup ++ loop) → Comes p s index b (length (setup ++ loop) + 5 * words) (setup ++ loop) w c.memory h (record c { memory = later })
      by_count zero e is code = let clash : true ≡ false = sym (eq-eqb words 0 e) ∙ is in cc
      by_count (suc k) e is code = looping k e code

      nothing : words ≡ 0 → Comes p s index b (0 + 5 * words) [] w c.memory h (record c { memory = later })
      nothing none = record {
        count = 0;
        few = omega arith;
        holding = h;
        reaches = code_does p s index h b [] stands tt tt;
        frame = framed h refl stands.in_range.bytes (λ q left other. refl) (subst (λ k. AreCopied to from k h.memory h.memory) (sym none) (none_copied to from h.memory));
        kept = λ q left other. refl;
        outside = λ y out. refl;
        input = refl;
      }

      by_test : (z : Bool) → (words == 0) ≡ z → CodeAt p index b (cond z [] (setup ++ loop)) → Comes p s index b (length (cond z [] (setup ++ loop)) + 5 * words) (cond z [] (setup ++ loop)) w c.memory h (record c { memory = later })
      by_test true is code = nothing (eqb-true words 0 is)
      by_test false is code = by_count words refl is code
