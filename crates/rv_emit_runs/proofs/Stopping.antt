-- At a stop the machine holds what a debugger reads there: the place, the frames of all activations, the homes of the innermost one, and all objects.
use Rattle.std.proofs.Common.{◌≡◌, ℕ, ◌+◌, ◌-◌, ◌%◌, ◌≤◌, inl, inr, sym, ap, ◌∙◌, subst, arith, refl, Option, Some, None, Bool, true, false, ◌||◌, List, [], ◌∷◌, length, map}
use Rattle.std.specs.Prelude.{◌==◌, option_map, slice_index}
use Rattle.std.proofs.lemmas.Bool.{eqb-true}
use Rattle.memory_map.specs.Maps.{most_words, stack_start, stack_end, stub_words}
use Rattle.memory_map.proofs.Facts.{map_facts}
use Rattle.rv_emit_runs.proofs.Maps.{code_map}
use Rattle.rv_emit_storage.specs.UnitMaps.{map_of_unit}
use Rattle.rv_machine.specs.State.{MachineState}
use Rattle.rv_machine.specs.Run.{is_stop}
use Rattle.graph_core.specs.Memory.{Memory}
use Rattle.graph_core.specs.Paths.{Among, front, behind}
use Rattle.graph_core.specs.Runs.{Activation, Configuration}
use Rattle.graph_homes.specs.declared.home.Home.{Home}
use Rattle.graph_homes.specs.declared.home.Home.TheVariants.{Register, Slot}
use Rattle.graph_homes.specs.Homed.{HomedForm, HaveHomes, IsHomeRegister, home_number, over_homes}
use Rattle.graph_core.specs.Validity.{IsValid}
use Rattle.rv_emit_storage.specs.StaticAddresses.{static_addresses}
use Rattle.rv_emit_tables.specs.declared.emitted.PlacedStop.{PlacedStop}
use Rattle.rv_emit_tables.specs.Emitted.{EmittedForm}
use Rattle.rv_emit_words.specs.declared.piece.Held.{Held}
use Rattle.rv_emit_steps.specs.Holding.{AreInRange, Holding, word_at}
use Rattle.rv_emit_steps.specs.Programs.{address_of, Stands}
use Rattle.rv_emit_steps.specs.EmitMovesDoing.{value_of_home}
use Rattle.rv_emit_steps.specs.Meaning.{Means, HoldsObjects, AreLaid}
use Rattle.rv_emit_steps.specs.Frames.{HoldsFrame}
use Rattle.rv_emit_runs.specs.Keeping.{IsTargetAmong}
use Rattle.rv_emit_runs.specs.Returns.{Resumes, answer_code}
use Rattle.rv_emit_runs.specs.Waiting.{setting_of, behind_frame, HoldsWaiting, HoldsAll}
use Rattle.rv_emit_runs.specs.Laid.{stop_addresses, IsCode}
use Rattle.rv_emit_runs.specs.Standing.{IsFrame, ReturnsTo, IsStack, StandsAt}
use Rattle.rv_emit_runs.proofs.Lists.{get_some}
use Rattle.rv_emit_runs.proofs.Related.{GoesOn}
use Rattle.rv_emit_runs.proofs.Rest.{program_in, codes_in}
use Rattle.base_laws.proofs.Lists.{front_only as index_front}

-- ---- The stop

-- A stop's address is one of the list's.
any_stop : (stops : List PlacedStop) (address : ℕ) → is_stop (map (λ (s : PlacedStop). s.address) stops) address ≡ true → (s : PlacedStop) × Among s stops × (s.address ≡ address)
any_stop [] address is = cc
any_stop (s ∷ more) address is = by_test (s.address == address) refl (λ later. any_stop more address later) is
  where
    by_test : (b : Bool) → (s.address == address) ≡ b → (is_stop (map (λ (z : PlacedStop). z.address) more) address ≡ true → (z : PlacedStop) × Among z more × (z.address ≡ address)) → (b || is_stop (map (λ (z : PlacedStop). z.address) more) address) ≡ true → (z : PlacedStop) × Among z (s ∷ more) × (z.address ≡ address)
    by_test true e others way = (s, front, eqb-true s.address address e)
    by_test false e others way = let later = others way in (later.0, behind later.1, later.2)

placed_so : (stops : List PlacedStop) (s : PlacedStop) (place address : ℕ) → Among s stops → s.place ≡ place → s.address ≡ address → Among (record { place = place; address = address }) stops
placed_so stops s place address among same_place same_address =
    subst (λ p. Among (record { place = p; address = address }) stops) same_place (subst (λ a. Among (record { place = s.place; address = a }) stops) same_address among)

-- ---- Homes and their numbers

-- No two homes of a function have one number.
one_home : (slots : ℕ) (x y : Option Home) → IsTargetAmong slots x → IsTargetAmong slots y → option_map home_number x ≡ option_map home_number y → x ≡ y
one_home slots None None ax ay e = refl
one_home slots None (Some y) ax ay e = cc
one_home slots (Some x) None ax ay e = cc
one_home slots (Some (Register r)) (Some (Register q)) ax ay e = let same : r ≡ q = cc in ap (λ n. Some (Register n)) same
one_home slots (Some (Slot j)) (Some (Slot k)) ax ay e =
    let same : 32 + j ≡ 32 + k = some_is (32 + j) (32 + k) e in
    let plain : j ≡ k = omega (arith, same) in
    ap (λ n. Some (Slot n)) plain
  where
    some_is : (m n : ℕ) → Some m ≡ Some n → m ≡ n
    some_is m n same = cc
one_home slots (Some (Register r)) (Some (Slot k)) ax ay e = absurd (far r k ax (some_is r (32 + k) e))
  where
    some_is : (m n : ℕ) → Some m ≡ Some n → m ≡ n
    some_is m n same = cc

    far : (m n : ℕ) → IsHomeRegister m → m ≡ 32 + n → ⊥
    far m n (inl is) same = omega (arith, is, same)
    far m n (inr (low, high)) same = omega (arith, high, same)
one_home slots (Some (Slot k)) (Some (Register r)) ax ay e = absurd (far r k ay (some_is (32 + k) r e))
  where
    some_is : (m n : ℕ) → Some m ≡ Some n → m ≡ n
    some_is m n same = cc

    far : (m n : ℕ) → IsHomeRegister m → 32 + n ≡ m → ⊥
    far m n (inl is) same = omega (arith, is, same)
    far m n (inr (low, high)) same = omega (arith, high, same)

module _ (h : HomedForm) (valid : IsValid h.unit) (homed : HaveHomes h) (e : EmittedForm) (code : IsCode h e) (addresses : ℕ → ℕ) where
  -- ---- The stack

  -- The address to which an activation returns is behind the word of a call, which belongs to the place of the one that waits.
  returns_to : (x : Activation) (index : ℕ) → index ≤ most_words e.map → Resumes (program_in h e code) (codes_in h e code) (GoesOn h e code) x index → ReturnsTo e x.place (address_of index)
  returns_to x index low resumes =
      let goes = resumes.rest in
      let same : resumes.target ≡ goes.target = one_home (codes_in h e code x.function).slots resumes.target goes.target resumes.among goes.among (sym resumes.wants ∙ goes.wants) in
      let many : length (answer_code (codes_in h e code x.function).storage resumes.target) ≡ length (answer_code (codes_in h e code x.function).storage goes.target) = ap (λ t. length (answer_code (codes_in h e code x.function).storage t)) same in
      let is = goes.is in
      let here : index ≡ goes.call + 1 = omega (arith, is, many) in
      record { index = goes.call; low = omega (arith, low, here); is = ap address_of here; owned = goes.owned }

  top_frame : (m : ℕ → ℕ) (sp : ℕ) (x : Activation) (waiting : List Activation) → IsStack e (codes_in h e code) addresses m sp x waiting → IsFrame e.map (codes_in h e code x.function) addresses sp x
  top_frame m sp x [] stack = stack.0
  top_frame m sp x (y ∷ waiting) stack = stack.0

  whole_size : (f : ℕ) → (codes_in h e code f).size % 16 ≡ 0
  whole_size f = omega arith

  frame_is : (held : List Held) (c : Configuration) (g : Holding) → HoldsFrame (setting_of (over_homes h) addresses held (codes_in h e code c.here.function)) c g → g.registers 2 % 16 ≡ 0 → IsFrame e.map (codes_in h e code c.here.function) addresses (g.registers 2) c.here
  frame_is held c g frame aligned = record {
    aligned = aligned;
    low = subst (λ m. stack_start m ≤ g.registers 2) (code_map h e code) frame.low;
    high = subst (λ m. g.registers 2 + (codes_in h e code c.here.function).size ≤ stack_end m) (code_map h e code) frame.high;
    objects = frame.own;
  }

  stack_is : (memory : Memory) (input : List ℕ) (held : List Held) (x : Activation) (waiting : List Activation) (g : Holding)
      → HoldsFrame (setting_of (over_homes h) addresses held (codes_in h e code x.function)) (record { memory = memory; input = input; here = x; waiting = waiting }) g
      → HoldsWaiting (codes_in h e code) (over_homes h) addresses (Resumes (program_in h e code) (codes_in h e code) (GoesOn h e code)) memory input (codes_in h e code x.function) x.first_object g waiting
      → IsStack e (codes_in h e code) addresses g.memory (g.registers 2) x waiting
  stack_is memory input held x [] g frame (returns, top) =
      let whole = whole_size x.function in (
        frame_is held (record { memory = memory; input = input; here = x; waiting = [] }) g frame (omega (arith, top, whole, (map_facts (map_of_unit (over_homes h))).frames)),
        subst (λ m. word_at g.memory (g.registers 2) ≡ address_of (stub_words m - 2)) (code_map h e code) returns,
        subst (λ m. g.registers 2 + (codes_in h e code x.function).size ≡ stack_end m) (code_map h e code) top,
      )
  stack_is memory input held x (y ∷ waiting) g frame (wait, others) =
      let later = stack_is memory input [] y waiting (behind_frame (codes_in h e code x.function) g) wait.frame others in
      let above = (top_frame g.memory (g.registers 2 + (codes_in h e code x.function).size) y waiting later).aligned in
      let whole = whole_size x.function in (
        frame_is held (record { memory = memory; input = input; here = x; waiting = y ∷ waiting }) g frame (omega (arith, above, whole)),
        subst (λ a. ReturnsTo e y.place a) (sym wait.returns) (returns_to y wait.index (subst (λ m. wait.index ≤ most_words m) (code_map h e code) wait.low) wait.code),
        later,
      )

  -- ---- The whole

  pub stands_at : (held : List Held) (d : Configuration) (g : Holding) (s : MachineState) (index : ℕ) → HoldsAll (codes_in h e code) (over_homes h) addresses (Resumes (program_in h e code) (codes_in h e code) (GoesOn h e code)) held d g
      → Stands (program_in h e code) s index g → is_stop (stop_addresses e) (address_of index) ≡ true → slice_index e.owners index ≡ d.here.place → StandsAt h e code.arrangement d s
  stands_at held d g s index all stands on owned =
      let stop = any_stop e.stops (address_of index) on in
      let there = code.stops stop.0 stop.1 in
      let address : address_of there.0 ≡ address_of index = sym there.1 ∙ stop.2 in
      let same : there.0 ≡ index = omega (arith, address) in
      record {
        addresses = addresses;
        map = stands.map;
        place = placed_so e.stops stop.0 d.here.place s.pc stop.1 (sym there.2 ∙ ap (λ i. slice_index e.owners i) same ∙ owned) (stop.2 ∙ sym stands.pc);
        depth = ap (λ (z : Holding). z.registers 4 + (length d.waiting + 1)) stands.holds ∙ all.depth;
        statics = λ n lt.
            let some = get_some h.unit.statics n lt in
            (all.here.static n some.0 some.1).1 ∙ index_front (length h.unit.statics) (static_addresses h.unit) n lt;
        stack = subst (λ (z : Holding). IsStack e (codes_in h e code) addresses z.memory (z.registers 2) d.here d.waiting) (sym stands.holds) (stack_is d.memory d.input held d.here d.waiting g all.here all.waiting);
        homes = λ home among. subst (λ (z : Holding). Means addresses d.memory (d.here.names (home_number home)) (value_of_home (codes_in h e code d.here.function).storage z home)) (sym stands.holds) (all.here.homes home among);
        objects = subst (λ (z : Holding). HoldsObjects addresses d.memory z.memory) (sym stands.holds) all.here.objects;
        laid = subst (λ m. AreLaid m addresses d.memory) (code_map h e code) all.here.laid;
        sizes = λ n o is. (all.here.static n o is).0;
        range = subst AreInRange (sym stands.holds) stands.in_range;
      }
