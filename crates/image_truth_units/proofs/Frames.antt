-- The frames of activations lie one above the other, and a debugger finds each from the one below it.
use Rattle.std.proofs.Common.{◌≡◌, ℕ, zero, suc, ◌+◌, ◌-◌, ◌/◌, ◌%◌, ◌<◌, ◌≤◌, true, ◌&&◌, Some, List, [], ◌∷◌, length, slice_get, refl, sym, ap, ◌∙◌, subst, arith}
use Rattle.std.specs.Prelude.{◌==◌, nat_le, nat_lt, slice_index, if◌then◌else◌}
use Rattle.std.specs.List.{AllByRecursion}
use Rattle.std.proofs.lemmas.Bool.{le-leb, lt-ltb, eq-eqb, and_from}
use Rattle.std.proofs.lemmas.Option.{none-some, same_Some}
use Rattle.memory_map.specs.declared.map.Map.{Map}
use Rattle.memory_map.specs.declared.map.Map.TheVariants.{One, Two}
use Rattle.memory_map.specs.Maps.{code_start, stack_end, stack_start, stub_words}
use Rattle.memory_map.proofs.Facts.{code_few, map_facts}
use Rattle.image_form.specs.Form.{Form}
use Rattle.rv_machine.specs.State.{MachineState, word}
use Rattle.stop_engine_view.specs.Callers.{calling_place, return_address, place_before}
use Rattle.stop_engine_view.specs.Reading.{is_stack_address, place_of_word}
use Rattle.graph_core.specs.Runs.{Activation}
use Rattle.graph_homes.specs.Homed.{HomedForm}
use Rattle.rv_emit_tables.specs.Emitted.{EmittedForm}
use Rattle.rv_emit_steps.specs.Holding.{memory_of, word_at}
use Rattle.rv_emit_steps.specs.Programs.{address_of}
use Rattle.rv_emit_runs.specs.Waiting.{FunctionCode}
use Rattle.rv_emit_runs.specs.Laid.{Arrangement, code_of}
use Rattle.rv_emit_runs.specs.Standing.{IsFrame, IsStack}
use Rattle.image_truth_units.specs.Standing.{Standing, AreCallers}
use Rattle.image_truth_units.specs.Keeping.{IsPlaced, standings}
use Rattle.image_truth_units.proofs.Reading.{stack_word_is}

-- where the frame of an activation begins, by its index from the innermost on
abbrev pub start_of : (codes : ℕ → FunctionCode) → (sp : ℕ) → List Activation → (index : ℕ) → ℕ
start_of codes sp [] index = sp
start_of codes sp (b ∷ more) zero = sp
start_of codes sp (b ∷ more) (suc index) = start_of codes (sp + (codes b.function).size) more index

abbrev pub standing_of : (start : ℕ) → Activation → Standing
standing_of start b = record { place = b.place; frame = start }

module _ (codes : ℕ → FunctionCode) where
  pub starts_above : (sp : ℕ) (stack : List Activation) (index : ℕ) → sp ≤ start_of codes sp stack index
  starts_above sp [] index = omega arith
  starts_above sp (b ∷ more) zero = omega arith
  starts_above sp (b ∷ more) (suc index) = let rest = starts_above (sp + (codes b.function).size) more index in omega (arith, rest)

  -- an inner frame ends before an outer one begins
  pub ends_before : (sp : ℕ) (stack : List Activation) (i j : ℕ) (b : Activation) → slice_get stack i ≡ Some b → i < j → start_of codes sp stack i + (codes b.function).size ≤ start_of codes sp stack j
  ends_before sp [] i j b is lt = absurd (none-some b is)
  ends_before sp (a ∷ more) i zero b is lt = absurd (omega (arith, lt))
  ends_before sp (a ∷ more) zero (suc j) b is lt =
      let rest = starts_above (sp + (codes a.function).size) more j in
      let same : (codes a.function).size ≡ (codes b.function).size = ap (λ (x : Activation). (codes x.function).size) (same_Some a b is) in
      omega (arith, rest, same)
  ends_before sp (a ∷ more) (suc i) (suc j) b is lt = ends_before (sp + (codes a.function).size) more i j b is (omega (arith, lt))

  pub standing_there : (sp : ℕ) (stack : List Activation) (index : ℕ) (b : Activation) → slice_get stack index ≡ Some b → slice_get (standings codes sp stack) index ≡ Some (standing_of (start_of codes sp stack index) b)
  standing_there sp [] index b is = absurd (none-some b is)
  standing_there sp (a ∷ more) zero b is = ap (λ (x : Activation). Some (standing_of sp x)) (same_Some a b is)
  standing_there sp (a ∷ more) (suc index) b is = standing_there (sp + (codes a.function).size) more index b is

  pub from_standing : (sp : ℕ) (stack : List Activation) (index : ℕ) (q : Standing) → slice_get (standings codes sp stack) index ≡ Some q → (b : Activation) × (slice_get stack index ≡ Some b) × (standing_of (start_of codes sp stack index) b ≡ q)
  from_standing sp [] index q is = absurd (none-some q is)
  from_standing sp (a ∷ more) zero q is = (a, refl, same_Some (standing_of sp a) q is)
  from_standing sp (a ∷ more) (suc index) q is = from_standing (sp + (codes a.function).size) more index q is

  pub many_standings : (sp : ℕ) (stack : List Activation) → length (standings codes sp stack) ≡ length stack
  many_standings sp [] = refl
  many_standings sp (a ∷ more) = let rest = many_standings (sp + (codes a.function).size) more in omega (arith, rest)

-- ---- The stack

module _ (h : HomedForm) (a : Arrangement) (e : EmittedForm) (addresses : ℕ → ℕ) (memory : ℕ → ℕ) where
  first_frame : (sp : ℕ) (b : Activation) (more : List Activation) → IsStack e (code_of h a) addresses memory sp b more → IsFrame e.map (code_of h a b.function) addresses sp b
  first_frame sp b [] stack = stack.0
  first_frame sp b (c ∷ more) stack = stack.0

  -- each activation has its frame
  pub frame_there : (sp : ℕ) (b : Activation) (more : List Activation) (index : ℕ) (x : Activation) → IsStack e (code_of h a) addresses memory sp b more → slice_get (b ∷ more) index ≡ Some x
      → IsFrame e.map (code_of h a x.function) addresses (start_of (code_of h a) sp (b ∷ more) index) x
  frame_there sp b more zero x stack is = subst (λ y. IsFrame e.map (code_of h a y.function) addresses sp y) (same_Some b x is) (first_frame sp b more stack)
  frame_there sp b [] (suc index) x stack is = absurd (none-some x is)
  frame_there sp b (c ∷ more) (suc index) x stack is = frame_there (sp + (code_of h a b.function).size) c more index x stack.2 is

  -- a frame has some bytes
  pub frame_some : (f : ℕ) → 16 ≤ (code_of h a f).size
  frame_some f = omega arith

-- ---- Callers

-- The word to which main returns stands behind its call.
stub_next : (r : Map) → stub_words r - 3 + 1 ≡ stub_words r - 2
stub_next One = refl
stub_next Two = refl

stub_low : (r : Map) → address_of (stub_words r - 3 + 1) < 4294967296
stub_low One = omega arith
stub_low Two = omega arith

module _ (h : HomedForm) (a : Arrangement) (e : EmittedForm) (addresses : ℕ → ℕ) (m : Form) (s : MachineState) (regions : s.map ≡ e.map) (owners : m.owners ≡ e.owners) (outermost : slice_index e.owners (stub_words e.map - 3) ≡ 0) where
  -- the place of the word before one that stands in the code
  owner_before : (index : ℕ) → address_of (index + 1) < 4294967296 → place_before m (address_of (index + 1)) ≡ slice_index m.owners index
  owner_before index low =
      let at : word (address_of (index + 1) + 4294967292) ≡ address_of index = omega (arith, low) in
      let even : address_of index % 4 ≡ 0 = omega arith in
      let test : (address_of index % 4 == 0 && nat_le code_start (address_of index)) ≡ true = and_from (address_of index % 4 == 0) (nat_le code_start (address_of index)) (eq-eqb (address_of index % 4) 0 even) (le-leb code_start (address_of index) (omega arith)) in
      let number : (address_of index - code_start) / 4 ≡ index = omega arith in
      ap (place_of_word m) at ∙ ap (λ b. if b then slice_index m.owners ((address_of index - code_start) / 4) else 0) test ∙ ap (slice_index m.owners) number

  -- the place to which an activation returns
  calls_from : (sp : ℕ) (b : Activation) (index : ℕ) → IsFrame e.map (code_of h a b.function) addresses sp b → word_at (memory_of s.map s.bytes s.stack) sp ≡ address_of (index + 1) → address_of (index + 1) < 4294967296 → calling_place m s sp ≡ slice_index m.owners index
  calls_from sp b index frame returns low =
      let own : IsFrame s.map (code_of h a b.function) addresses sp b = subst (λ r. IsFrame r (code_of h a b.function) addresses sp b) (sym regions) frame in
      let least = own.low in let most = own.high in let even = own.aligned in
      let some = frame_some h a e addresses (memory_of s.map s.bytes s.stack) b.function in
      let below : is_stack_address s sp ≡ true = and_from (nat_le (stack_start s.map) sp) (nat_lt sp (stack_end s.map)) (le-leb (stack_start s.map) sp least) (lt-ltb sp (stack_end s.map) (omega (arith, most, some))) in
      let four : sp % 4 ≡ 0 = omega (arith, even) in
      let test : (is_stack_address s sp && sp % 4 == 0) ≡ true = and_from (is_stack_address s sp) (sp % 4 == 0) below (eq-eqb (sp % 4) 0 four) in
      ap (λ b. if b then place_before m (return_address s sp) else 0) test ∙ ap (place_before m) (stack_word_is s sp least ∙ returns) ∙ owner_before index low

  -- A debugger finds the activations that wait, one from the other.
  pub callers_found : (sp : ℕ) (b : Activation) (more : List Activation) → IsStack e (code_of h a) addresses (memory_of s.map s.bytes s.stack) sp b more → AllByRecursion (IsPlaced h a m) (b ∷ more)
      → AreCallers m s (standing_of sp b) (standings (code_of h a) (sp + (code_of h a b.function).size) more)
  callers_found sp b [] stack placed =
      calls_from sp b (stub_words e.map - 3) stack.0 (stack.1 ∙ ap address_of (sym (stub_next e.map))) (stub_low e.map)
      ∙ ap (λ l. slice_index l (stub_words e.map - 3)) owners ∙ outermost
  callers_found sp b (c ∷ more) stack placed =
      let returns = stack.1 in
      let few = code_few e.map (returns.index + 1) returns.low in
      let fits : address_of (returns.index + 1) < 4294967296 = omega (arith, few) in
      let next = first_frame h a e addresses (memory_of s.map s.bytes s.stack) (sp + (code_of h a b.function).size) c more stack.2 in
      let high = next.high in
      let whole = (map_facts e.map).whole in (
        calls_from sp b returns.index stack.0 returns.is fits ∙ ap (λ l. slice_index l returns.index) owners ∙ returns.owned,
        placed.1.0.some,
        ap (λ k. sp + k) (sym placed.0.frame),
        omega (arith, high, whole),
        callers_found (sp + (code_of h a b.function).size) c more stack.2 placed.1,
      )
