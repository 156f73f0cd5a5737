-- A step over homes does what a step of the unit does, but for a note of what is not known.
use Rattle.std.proofs.Common.{◌≡◌, ℕ, suc, ◌+◌, ◌%◌, ◌⊎◌, inl, inr, Bool, true, false, cond, Option, Some, None, List, [], ◌∷◌, ◌++◌, length, map, refl, sym, ap, ◌∙◌, subst}
use Rattle.std.specs.Prelude.{◌==◌, if◌then◌else◌, slice_get, option_map, option_and_then}
use Rattle.std.specs.List.{list_any}
use Rattle.std.proofs.lemmas.Bool.{cases_Bool}
use Rattle.std.proofs.lemmas.Bool.Decides.{eqb_tells}
use Rattle.std.proofs.lemmas.Option.{slice_get-map}
use Rattle.event_runs.specs.Agreement.{Pairs}
use Rattle.graph_homes.specs.declared.home.Home.{Home}
use Rattle.graph_core.specs.declared.value.Value.{Value}
use Rattle.graph_core.specs.declared.value.Value.TheVariants.{Number, Pointer, Odd}
use Rattle.graph_core.specs.declared.value.Shadow.{Shadow}
use Rattle.graph_core.specs.declared.value.Shadow.TheVariants as shadow
use Rattle.graph_core.specs.declared.instruction.Element.{Element}
use Rattle.graph_core.specs.declared.instruction.Callee.{Callee}
use Rattle.graph_core.specs.declared.instruction.Callee.TheVariants as callee
use Rattle.graph_core.specs.Graphs.{Operand, Name, Constant, StaticAddress, Recipe, Is, Gone, Location, Instruction, Marker, Note, Move, Operate, Truncate, Same, Address, Load, Store, Zero, CopyWords, Call, End, Jump, Branch, Return, Block, Graph}
use Rattle.graph_core.specs.Uses.{names_of, names_of_location, reads_of, reads_of_end, target_of, targets_of}
use Rattle.graph_core.specs.Paths.{Among, front, behind}
use Rattle.graph_core.specs.Validity.{IsValid, IsInstruction, AreOperandsOfEnd, HasParameters}
use Rattle.graph_core.specs.Values.{operate, truncate, same, holds, is_odd}
use Rattle.graph_core.specs.Memory.{Memory, is_live, pointer_to_object, ended_from, read, write, zeroed, copied}
use Rattle.graph_core.specs.Runs.{Activation, Configuration, TooDeep, Stop, Stepped, Goes, Shows, Ends, Wild, frame, with_value_at, value, recipe_value, pointed, take_wanted, entered, wrote, wrote_some, with_memory, unless_odd, at_place, entered, go_to, branched, exited, returned, leave, put_out, got, goes_if, first_argument, bind_names, bind_objects, with_objects, new_activation, begun, enter, call_function, call, execute, execute_end, step_from, step}
use Rattle.graph_homes.specs.Homed.{HomedForm, HaveHomes, home_of, placed, placed_operand, placed_location, placed_instruction, placed_end, placed_block, placed_binding, placed_graph, over_homes}
use Rattle.graph_solve_live.specs.Live.{read as is_read, read_at_end}
use Rattle.home_assign.specs.Clashes.{IsNoCopyOf}
use Rattle.home_assign.specs.Rule.{HaveHomesApart}
use Rattle.home_assign.specs.Alike.{placed_activation, byte, stop, IsOddNote}
use Rattle.home_assign.proofs.Entering.{fits_gone, fits_noted, fits_entered, fits_begun}
use Rattle.home_assign.proofs.Fits.{Fits, path_stands, block_valid, instruction_valid, fits_passed, fits_written, shown}
use Rattle.home_assign.proofs.Histories.{IsNoNote}
use Rattle.home_assign.proofs.Lists.{among_left, among_right, among_found}
use Rattle.home_assign.proofs.NamesRead.{reads_within, end_within}
use Rattle.home_assign.proofs.HomeRunsNumbers.{placed_at}
use Rattle.home_assign.proofs.Related.{Waits, placed_configuration, Related, DoesSame, related_same, many_waiting, frame_same, frames_same}
use Rattle.home_assign.proofs.Values.{value_placed, values_placed, pointed_placed, objects_placed}

module _ (h : HomedForm) (valid : IsValid h.unit) (homed : HaveHomes h) (apart : HaveHomesApart h) where
  -- ---- Activations that go on behind calls

  -- What a call's value goes to takes it in both.
  pub goes_on : (memory : Memory) (input : List ℕ) (a : Activation) (held : ℕ → Value) (shadows : ℕ → Shadow) → ((x : ℕ) → shadows x ≡ shadow.Gone) → (w : Option ℕ) (f : Callee) (all : List Operand) (v : Value)
      → Fits h a.function a.graph a.names a.shadows (Call w f all ∷ a.rest) a.end held → (xs ys : List Activation) → Pairs (Waits h) xs ys
      → Related h (record { memory = memory; input = input; here = take_wanted w v a; waiting = xs }) (record { memory = memory; input = input; here = take_wanted (option_map (placed (home_of h a.function)) w) v (placed_activation h a held shadows); waiting = ys })
  goes_on memory input a held shadows gone None f all v fits xs ys waits = record {
    held = held;
    shadows = shadows;
    waiting = ys;
    is = refl;
    gone = gone;
    here = fits_passed h valid homed a.function a.graph fits.of a.names a.shadows (Call None f all) a.rest a.end held refl tt fits;
    waits = waits;
  }
  goes_on memory input a held shadows gone (Some x) f all v fits xs ys waits = record {
    held = with_value_at held (placed (home_of h a.function) x) v;
    shadows = shadows;
    waiting = ys;
    is = refl;
    gone = gone;
    here = fits_written h valid homed a.function a.graph fits.of apart a.names a.shadows (Call (Some x) f all) a.rest a.end held x v refl (λ y. inr (λ q. cc)) fits;
    waits = waits;
  }

  exited_same : (v : Value) → DoesSame h (exited v) (exited v)
  exited_same (Number w) = refl
  exited_same (Pointer object size offset) = tt
  exited_same Odd = tt

  -- An activation is left in both.
  pub returned_same : (memory : Memory) (input : List ℕ) (v : Value) (xs ys : List Activation) → Pairs (Waits h) xs ys → DoesSame h (returned memory input v xs) (returned memory input v ys)
  returned_same memory input v [] [] waits = exited_same v
  returned_same memory input v [] (b ∷ ys) waits = absurd waits
  returned_same memory input v (a ∷ xs) [] waits = absurd waits
  returned_same memory input v (a ∷ xs) (b ∷ ys) waits =
      let w = waits.0 in
      subst (λ z. Related h (record { memory = memory; input = input; here = take_wanted a.wants v a; waiting = xs }) (record { memory = memory; input = input; here = take_wanted z.wants v z; waiting = ys })) (sym w.is)
      (goes_on memory input a w.held w.shadows w.gone a.wants w.callee w.operands v w.fits xs ys waits.1)

  -- ---- Functions that begin

  -- Both begin, or neither.
  abbrev pub BeginSame : Option Configuration → Option Configuration → Type 0
  BeginSame None None = Unit {0}
  BeginSame (Some c) (Some d) = Related h c d
  BeginSame _ _ = ⊥

  begun_same : (memory : Memory) (input : List ℕ) (f : ℕ) (vs : List Value) (xs ys : List Activation) (g : Graph) (b : Block) → Pairs (Waits h) xs ys → slice_get h.unit.graphs f ≡ Some g → length vs ≡ length g.parameters → slice_get g.blocks 0 ≡ Some b
      → Related h (begun memory input f vs xs g b) (begun memory input f vs ys (placed_graph (home_of h f) g) (placed_block (home_of h f) b))
  begun_same memory input f vs xs ys g b waits is long at = record {
    held = bind_names (map (placed_binding (home_of h f)) g.parameters) vs (λ x. Odd);
    shadows = λ x. shadow.Gone;
    waiting = ys;
    is = ap (λ m. record { memory = m; input = input; here = new_activation f (placed_graph (home_of h f) g) (placed_block (home_of h f) b) (length memory) vs; waiting = ys }) same_memory;
    gone = λ x. refl;
    here = fits_begun h valid homed f g is apart vs long b at;
    waits = waits;
  }
    where
      same_memory : bind_objects (length memory) (map (placed_binding (home_of h f)) g.parameters) vs (with_objects (length ys + 1) (placed_graph (home_of h f) g) memory) ≡ bind_objects (length memory) g.parameters vs (with_objects (length xs + 1) g memory)
      same_memory =
          objects_placed (home_of h f) (length memory) g.parameters vs (with_objects (length ys + 1) g memory)
          ∙ ap (λ n. bind_objects (length memory) g.parameters vs (with_objects (n + 1) g memory)) (many_waiting h xs ys waits)

  pub enter_same : (memory : Memory) (input : List ℕ) (f : ℕ) (vs : List Value) (xs ys : List Activation) → Pairs (Waits h) xs ys → HasParameters (slice_get h.unit.graphs f) (length vs)
      → BeginSame (enter h.unit memory input f vs xs) (enter (over_homes h) memory input f vs ys)
  enter_same memory input f vs xs ys waits has =
      subst (λ o. BeginSame (enter h.unit memory input f vs xs) (option_and_then (λ g. option_map (begun memory input f vs ys g) (slice_get g.blocks 0)) o)) (sym (placed_at h f)) (by_graph (slice_get h.unit.graphs f) refl has)
    where
      home : ℕ → Home
      home = home_of h f

      by_block : (g : Graph) → slice_get h.unit.graphs f ≡ Some g → length vs ≡ length g.parameters → (o : Option Block) → slice_get g.blocks 0 ≡ o
          → BeginSame (option_map (begun memory input f vs xs g) o) (option_map (begun memory input f vs ys (placed_graph home g)) (option_map (placed_block home) o))
      by_block g is long None at = tt
      by_block g is long (Some b) at = begun_same memory input f vs xs ys g b waits is long at

      by_graph : (o : Option Graph) → slice_get h.unit.graphs f ≡ o → HasParameters o (length vs)
          → BeginSame (option_and_then (λ g. option_map (begun memory input f vs xs g) (slice_get g.blocks 0)) o) (option_and_then (λ g. option_map (begun memory input f vs ys g) (slice_get g.blocks 0)) (option_map (placed_graph home) o))
      by_graph None is none = absurd none
      by_graph (Some g) is long =
          subst (λ o. BeginSame (option_map (begun memory input f vs xs g) (slice_get g.blocks 0)) (option_map (begun memory input f vs ys (placed_graph home g)) o)) (sym (slice_get-map (placed_block home) g.blocks 0))
          (by_block g is long (slice_get g.blocks 0) refl)

  goes_if_same : (o p : Option Configuration) → BeginSame o p → DoesSame h (goes_if o) (goes_if p)
  goes_if_same None None same = tt
  goes_if_same None (Some d) same = absurd same
  goes_if_same (Some c) None same = absurd same
  goes_if_same (Some c) (Some d) same = same

  unless_same : (b : Bool) (p q : Stepped) → DoesSame h p q → DoesSame h (cond b Wild p) (cond b Wild q)
  unless_same true p q same = tt
  unless_same false p q same = same

  -- ---- One configuration, and the same over homes

  module _ (c : Configuration) (held : ℕ → Value) (shadows : ℕ → Shadow) (waiting : List Activation) (gone : (x : ℕ) → shadows x ≡ shadow.Gone) (waits : Pairs (Waits h) c.waiting waiting) where
    abbrev d : Configuration
    d = placed_configuration h c held shadows waiting

    abbrev home : ℕ → Home
    home = home_of h c.here.function

    -- What is left, behind a point that fits.
    abbrev FitsAt : List Instruction → Type 0
    FitsAt point = Fits h c.here.function c.here.graph c.here.names c.here.shadows point c.here.end held

    valid_here : (i : Instruction) → FitsAt (i ∷ c.here.rest) → IsInstruction h.unit c.here.graph i
    valid_here i fits = instruction_valid h valid homed c.here.function c.here.graph fits.of fits.block i c.here.rest c.here.end (path_stands c.here.graph fits.history fits.block (i ∷ c.here.rest) c.here.end fits.along)

    reading : (i : Instruction) → FitsAt (i ∷ c.here.rest) → (x : ℕ) → Among x (reads_of i) → held (placed home x) ≡ c.here.names x
    reading i fits x among = fits.kept x (reads_within h.unit c.here.graph i x (valid_here i fits) among) (inr (is_read (among_found x (reads_of i) among)))

    -- A name is written.
    writes_same : (i : Instruction) (x : ℕ) (v w : Value) → target_of i ≡ Some x → ((y : ℕ) → (v ≡ c.here.names y) ⊎ IsNoCopyOf x y i) → w ≡ v → FitsAt (i ∷ c.here.rest) → DoesSame h (wrote c x v) (wrote d (placed home x) w)
    writes_same i x v w target copies e fits = subst (λ z. DoesSame h (wrote c x v) (wrote d (placed home x) z)) (sym e) (record {
      held = with_value_at held (placed home x) v;
      shadows = shadows;
      waiting = waiting;
      is = refl;
      gone = gone;
      here = fits_written h valid homed c.here.function c.here.graph fits.of apart c.here.names c.here.shadows i c.here.rest c.here.end held x v target copies fits;
      waits = waits;
    })

    some_same : (i : Instruction) (x : ℕ) (o : Option Value) → target_of i ≡ Some x → ((y : ℕ) → IsNoCopyOf x y i) → FitsAt (i ∷ c.here.rest) → DoesSame h (wrote_some c x o) (wrote_some d (placed home x) o)
    some_same i x None target unlike fits = tt
    some_same i x (Some v) target unlike fits = writes_same i x v v target (λ y. inr (unlike y)) refl fits

    -- Nothing but memory changes.
    memory_same : (i : Instruction) (o : Option Memory) → target_of i ≡ None → IsNoNote i → FitsAt (i ∷ c.here.rest) → DoesSame h (with_memory c o) (with_memory d o)
    memory_same i None target plain fits = tt
    memory_same i (Some m) target plain fits = record {
      held = held;
      shadows = shadows;
      waiting = waiting;
      is = refl;
      gone = gone;
      here = fits_passed h valid homed c.here.function c.here.graph fits.of c.here.names c.here.shadows i c.here.rest c.here.end held target plain fits;
      waits = waits;
    }

    move_same : (x : ℕ) (a : Operand) → FitsAt (Move x a ∷ c.here.rest) → DoesSame h (execute h.unit (Move x a) c) (execute (over_homes h) (placed_instruction home (Move x a)) d)
    move_same x a fits = writes_same (Move x a) x (value h.unit.statics c.here.names a) (value h.unit.statics held (placed_operand home a)) refl (copied_by a) (value_placed h.unit.statics home c.here.names held a (reading (Move x a) fits)) fits
      where
        copied_by : (o : Operand) (y : ℕ) → (value h.unit.statics c.here.names o ≡ c.here.names y) ⊎ IsNoCopyOf x y (Move x o)
        copied_by (Name z) y = elim (eqb_tells z y) [ inl t ↦ inl (ap c.here.names t.1) | inr t ↦ inr (λ q. t.1 cc) ]
        copied_by (Constant w) y = inr (λ q. cc)
        copied_by (StaticAddress object offset) y = inr (λ q. cc)

    load_same : (x : ℕ) (e : Element) (l : Location) → FitsAt (Load x e l ∷ c.here.rest) → DoesSame h (execute h.unit (Load x e l) c) (execute (over_homes h) (placed_instruction home (Load x e l)) d)
    load_same x e l fits = subst (λ p. DoesSame h (execute h.unit (Load x e l) c) (wrote_some d (placed home x) (read c.memory e p))) (sym (pointed_placed h.unit.statics home c.memory c.here d.here refl l (reading (Load x e l) fits)))
        (some_same (Load x e l) x (read c.memory e (pointed h.unit.statics c.memory c.here l)) refl (λ y q. cc) fits)

    store_same : (e : Element) (l : Location) (a : Operand) → FitsAt (Store e l a ∷ c.here.rest) → DoesSame h (execute h.unit (Store e l a) c) (execute (over_homes h) (placed_instruction home (Store e l a)) d)
    store_same e l a fits =
        let found : value h.unit.statics held (placed_operand home a) ≡ value h.unit.statics c.here.names a =
        value_placed h.unit.statics home c.here.names held a (λ x among. reading (Store e l a) fits x (among_right x (names_of_location l) (names_of a) among)) in
        let at : pointed h.unit.statics c.memory d.here (placed_location home l) ≡ pointed h.unit.statics c.memory c.here l =
        pointed_placed h.unit.statics home c.memory c.here d.here refl l (λ x among. reading (Store e l a) fits x (among_left x (names_of_location l) (names_of a) among)) in
        subst (λ p. DoesSame h (execute h.unit (Store e l a) c) (unless_odd (value h.unit.statics held (placed_operand home a)) (with_memory d (write c.memory e p (value h.unit.statics held (placed_operand home a)))))) (sym at)
        (subst (λ w. DoesSame h (execute h.unit (Store e l a) c) (unless_odd w (with_memory d (write c.memory e (pointed h.unit.statics c.memory c.here l) w)))) (sym found)
        (unless_same (is_odd (value h.unit.statics c.here.names a)) (with_memory c stored) (with_memory d stored) (memory_same (Store e l a) stored refl tt fits)))
      where
        stored : Option Memory
        stored = write c.memory e (pointed h.unit.statics c.memory c.here l) (value h.unit.statics c.here.names a)

    -- ---- Calls

    function_same : (x : Option ℕ) (f : ℕ) (all : List Operand) (vs : List Value) → HasParameters (slice_get h.unit.graphs f) (length vs) → FitsAt (Call x (callee.Function f) all ∷ c.here.rest)
        → DoesSame h (call_function h.unit c x f vs) (call_function (over_homes h) d (option_map (placed home) x) f vs)
    function_same x f all vs has fits =
        subst (λ n. DoesSame h (call_function h.unit c x f vs) (if n + 1 == 1024 then Ends TooDeep else goes_if (enter (over_homes h) c.memory c.input f vs (after ∷ waiting)))) (sym (many_waiting h c.waiting waiting waits)) (by_test (length c.waiting + 1 == 1024))
      where
        before : Activation
        before = record c.here { wants = x }

        after : Activation
        after = record d.here { wants = option_map (placed home) x }

        by_test : (full : Bool) → DoesSame h (if full then Ends TooDeep else goes_if (enter h.unit c.memory c.input f vs (before ∷ c.waiting))) (if full then Ends TooDeep else goes_if (enter (over_homes h) c.memory c.input f vs (after ∷ waiting)))
        by_test true = refl
        by_test false = goes_if_same (enter h.unit c.memory c.input f vs (before ∷ c.waiting)) (enter (over_homes h) c.memory c.input f vs (after ∷ waiting))
            (enter_same c.memory c.input f vs (before ∷ c.waiting) (after ∷ waiting) (record { held = held; shadows = shadows; is = refl; gone = gone; callee = callee.Function f; operands = all; fits = fits }, waits) has)

    got_same : (x : Option ℕ) (all : List Operand) (input : List ℕ) → FitsAt (Call x callee.Getchar all ∷ c.here.rest) → DoesSame h (got c x input) (got d (option_map (placed home) x) input)
    got_same x all [] fits = goes_on c.memory c.input c.here held shadows gone x callee.Getchar all (Number 4294967295) fits c.waiting waiting waits
    got_same x all (b ∷ input) fits = goes_on c.memory input c.here held shadows gone x callee.Getchar all (Number b) fits c.waiting waiting waits

    put_same : (x : Option ℕ) (all : List Operand) (v : Value) → FitsAt (Call x callee.Putchar all ∷ c.here.rest) → DoesSame h (put_out c x v) (put_out d (option_map (placed home) x) v)
    put_same x all (Number w) fits =
        let after : Configuration = record c { here = take_wanted x (Number (w % 256)) c.here } in
        let other : Configuration = record d { here = take_wanted (option_map (placed home) x) (Number (w % 256)) d.here } in
        let related : Related h after other = goes_on c.memory c.input c.here held shadows gone x callee.Putchar all (Number (w % 256)) fits c.waiting waiting waits in
        (related, byte (related_same h after other related))
    put_same x all (Pointer object size offset) fits = tt
    put_same x all Odd fits = tt

    length_mapped : {A B : Type 0} (f : A → B) (xs : List A) → length (map f xs) ≡ length xs
    length_mapped f [] = refl
    length_mapped f (x ∷ xs) = ap suc (length_mapped f xs)

    call_same : (x : Option ℕ) (f : Callee) (all : List Operand) → FitsAt (Call x f all ∷ c.here.rest) → DoesSame h (execute h.unit (Call x f all) c) (execute (over_homes h) (placed_instruction home (Call x f all)) d)
    call_same x f all fits =
        subst (λ ws. DoesSame h (execute h.unit (Call x f all) c) (if list_any is_odd ws then Wild else call (over_homes h) d (option_map (placed home) x) f ws)) (sym (values_placed h.unit.statics home c.here.names held all (reading (Call x f all) fits)))
        (unless_same (list_any is_odd vs) (call h.unit c x f vs) (call (over_homes h) d (option_map (placed home) x) f vs) (by_callee f fits))
      where
        vs : List Value
        vs = map (value h.unit.statics c.here.names) all

        by_callee : (k : Callee) → FitsAt (Call x k all ∷ c.here.rest) → DoesSame h (call h.unit c x k vs) (call (over_homes h) d (option_map (placed home) x) k vs)
        by_callee (callee.Function n) here = function_same x n all vs (subst (HasParameters (slice_get h.unit.graphs n)) (sym (length_mapped (value h.unit.statics c.here.names) all)) (valid_here (Call x (callee.Function n) all) here).2) here
        by_callee callee.Getchar here = got_same x all c.input here
        by_callee callee.Putchar here = put_same x all (first_argument vs) here
        by_callee callee.Exit here = exited_same (first_argument vs)

    -- ---- Markers and notes

    marker_same : (p : ℕ) → FitsAt (Marker p ∷ c.here.rest) → DoesSame h (execute h.unit (Marker p) c) (execute (over_homes h) (Marker p) d)
    marker_same p fits = by_test (p == c.here.graph.entry)
      where
        after : Configuration
        after = at_place p c

        other : Configuration
        other = at_place p d

        related : Related h after other
        related = record {
          held = held;
          shadows = shadows;
          waiting = waiting;
          is = refl;
          gone = gone;
          here = fits_passed h valid homed c.here.function c.here.graph fits.of c.here.names c.here.shadows (Marker p) c.here.rest c.here.end held refl tt fits;
          waits = waits;
        }

        by_test : (b : Bool) → DoesSame h (if b then Goes after else Shows (Stop (frame after.here ∷ map frame c.waiting) c.memory) after) (if b then Goes other else Shows (Stop (frame other.here ∷ map frame waiting) c.memory) other)
        by_test true = related
        by_test false = (
          related,
          stop refl refl (frame_same h after.here held shadows gone, frames_same h c.waiting waiting waits) (related_same h after other related)
              (λ x r on_all. shown h valid homed c.here.function c.here.graph fits.of c.here.names c.here.shadows p c.here.rest c.here.end held fits x r on_all),
        )

    gone_again : (x y : ℕ) → with_value_at shadows x shadow.Gone y ≡ shadow.Gone
    gone_again x y = by_test (y == x)
      where
        by_test : (b : Bool) → (if b then shadow.Gone else shadows y) ≡ shadow.Gone
        by_test true = refl
        by_test false = gone y

    gone_same : (x change : ℕ) → FitsAt (Note x (Gone change) ∷ c.here.rest) → DoesSame h (execute h.unit (Note x (Gone change)) c) (execute (over_homes h) (Note x (Gone 0)) d)
    gone_same x change fits = record {
      held = held;
      shadows = with_value_at shadows x shadow.Gone;
      waiting = waiting;
      is = refl;
      gone = gone_again x;
      here = fits_gone h valid homed c.here.function c.here.graph fits.of c.here.names c.here.shadows x change c.here.rest c.here.end held fits;
      waits = waits;
    }

    -- A note of what is known.
    noted_same : (x : ℕ) (r : Recipe) → is_odd (recipe_value h.unit.statics c.here.names r) ≡ false → FitsAt (Note x (Is r) ∷ c.here.rest) → DoesSame h (execute h.unit (Note x (Is r)) c) (execute (over_homes h) (Note x (Gone 0)) d)
    noted_same x r whole fits = subst (λ b. DoesSame h (if b then Wild else Goes after) (execute (over_homes h) (Note x (Gone 0)) d)) (sym whole) (record {
      held = held;
      shadows = with_value_at shadows x shadow.Gone;
      waiting = waiting;
      is = refl;
      gone = gone_again x;
      here = fits_noted h valid homed c.here.function c.here.graph fits.of c.here.names c.here.shadows x r c.here.rest c.here.end held whole (valid_here (Note x (Is r)) fits).1.0 fits;
      waits = waits;
    })
      where
        after : Configuration
        after = record c { here = record c.here { shadows = with_value_at c.here.shadows x (shadow.Known (recipe_value h.unit.statics c.here.names r)) } }

    -- An instruction says what is not known.
    abbrev IsOdd : Instruction → Type 0
    IsOdd i = (x : ℕ) × (r : Recipe) × (i ≡ Note x (Is r)) × (is_odd (recipe_value h.unit.statics c.here.names r) ≡ true)

    pub execute_same : (i : Instruction) → FitsAt (i ∷ c.here.rest) → DoesSame h (execute h.unit i c) (execute (over_homes h) (placed_instruction home i) d) ⊎ IsOdd i
    execute_same (Marker p) fits = inl (marker_same p fits)
    execute_same (Note x (Gone change)) fits = inl (gone_same x change fits)
    execute_same (Note x (Is r)) fits = elim (cases_Bool (is_odd (recipe_value h.unit.statics c.here.names r))) [ inl odd ↦ inr (x, r, refl, odd) | inr whole ↦ inl (noted_same x r whole fits) ]
    execute_same (Move x a) fits = inl (move_same x a fits)
    execute_same (Operate x o a b) fits = inl (
        writes_same (Operate x o a b) x (operate o (value h.unit.statics c.here.names a) (value h.unit.statics c.here.names b)) (operate o (value h.unit.statics held (placed_operand home a)) (value h.unit.statics held (placed_operand home b))) refl (λ y. inr (λ q. cc))
        (ap (λ v. operate o v (value h.unit.statics held (placed_operand home b))) (value_placed h.unit.statics home c.here.names held a (λ z among. reading (Operate x o a b) fits z (among_left z (names_of a) (names_of b) among)))
        ∙ ap (operate o (value h.unit.statics c.here.names a)) (value_placed h.unit.statics home c.here.names held b (λ z among. reading (Operate x o a b) fits z (among_right z (names_of a) (names_of b) among))))
        fits
        )
    execute_same (Truncate x t a) fits = inl (
        writes_same (Truncate x t a) x (truncate t (value h.unit.statics c.here.names a)) (truncate t (value h.unit.statics held (placed_operand home a))) refl (λ y. inr (λ q. cc))
        (ap (truncate t) (value_placed h.unit.statics home c.here.names held a (reading (Truncate x t a) fits)))
        fits
        )
    execute_same (Same x a b) fits = inl (
        writes_same (Same x a b) x (same (is_live c.memory) (value h.unit.statics c.here.names a) (value h.unit.statics c.here.names b)) (same (is_live c.memory) (value h.unit.statics held (placed_operand home a)) (value h.unit.statics held (placed_operand home b))) refl
        (λ y. inr (λ q. cc))
        (ap (λ v. same (is_live c.memory) v (value h.unit.statics held (placed_operand home b))) (value_placed h.unit.statics home c.here.names held a (λ z among. reading (Same x a b) fits z (among_left z (names_of a) (names_of b) among)))
        ∙ ap (same (is_live c.memory) (value h.unit.statics c.here.names a)) (value_placed h.unit.statics home c.here.names held b (λ z among. reading (Same x a b) fits z (among_right z (names_of a) (names_of b) among))))
        fits
        )
    execute_same (Address x object) fits = inl (writes_same (Address x object) x (pointer_to_object c.memory (c.here.first_object + object)) (pointer_to_object c.memory (c.here.first_object + object)) refl (λ y. inr (λ q. cc)) refl fits)
    execute_same (Load x e l) fits = inl (load_same x e l fits)
    execute_same (Store e l a) fits = inl (store_same e l a fits)
    execute_same (Zero object words) fits = inl (memory_same (Zero object words) (zeroed c.memory (c.here.first_object + object) words) refl tt fits)
    execute_same (CopyWords object bytes words) fits = inl (memory_same (CopyWords object bytes words) (option_and_then (λ all. copied c.memory (c.here.first_object + object) all words) (slice_get h.unit.array_bytes bytes)) refl tt fits)
    execute_same (Call x f all) fits = inl (call_same x f all fits)

    -- ---- The ends of blocks

    end_valid : FitsAt [] → AreOperandsOfEnd h.unit.statics c.here.graph c.here.end
    end_valid fits =
        let s = path_stands c.here.graph fits.history fits.block [] c.here.end fits.along in
        subst (AreOperandsOfEnd h.unit.statics c.here.graph) (sym s.ends) (block_valid h valid homed c.here.function c.here.graph fits.of fits.block s.block s.is).operands

    end_reading : FitsAt [] → (x : ℕ) → Among x (reads_of_end c.here.end) → held (placed home x) ≡ c.here.names x
    end_reading fits x among = fits.kept x (end_within h.unit.statics c.here.graph c.here.end x (end_valid fits) among) (inr (read_at_end (among_found x (reads_of_end c.here.end) among)))

    go_same : (l : ℕ) → Among l (targets_of c.here.end) → FitsAt [] → DoesSame h (go_to c l) (go_to d l)
    go_same l among fits = subst (λ o. DoesSame h (go_to c l) (entered_over o)) (sym (slice_get-map (placed_block home) c.here.graph.blocks l)) (by_block (slice_get c.here.graph.blocks l) refl)
      where
        entered_over : Option Block → Stepped
        entered_over o = entered d l o

        by_block : (o : Option Block) → slice_get c.here.graph.blocks l ≡ o → DoesSame h (entered c l o) (entered_over (option_map (placed_block home) o))
        by_block None at = tt
        by_block (Some b) at = record {
          held = held;
          shadows = shadows;
          waiting = waiting;
          is = refl;
          gone = gone;
          here = fits_entered h valid homed c.here.function c.here.graph fits.of c.here.names c.here.shadows c.here.end held l b among at fits;
          waits = waits;
        }

    end_same : (e : End) → c.here.end ≡ e → FitsAt [] → DoesSame h (execute_end h.unit e c) (execute_end (over_homes h) (placed_end home e) d)
    end_same (Jump l) is fits = go_same l (subst (λ z. Among l (targets_of z)) (sym is) front) fits
    end_same (Branch k a b l m) is fits =
        subst (λ o. DoesSame h (execute_end h.unit (Branch k a b l m) c) (branched d o l m)) (sym both) (by_found (holds (is_live c.memory) k (value h.unit.statics c.here.names a) (value h.unit.statics c.here.names b)))
      where
        read_here : (x : ℕ) → Among x (names_of a ++ names_of b) → held (placed home x) ≡ c.here.names x
        read_here x among = end_reading fits x (subst (λ z. Among x (reads_of_end z)) (sym is) among)

        both : holds (is_live c.memory) k (value h.unit.statics held (placed_operand home a)) (value h.unit.statics held (placed_operand home b)) ≡ holds (is_live c.memory) k (value h.unit.statics c.here.names a) (value h.unit.statics c.here.names b)
        both =
            ap (λ v. holds (is_live c.memory) k v (value h.unit.statics held (placed_operand home b))) (value_placed h.unit.statics home c.here.names held a (λ x among. read_here x (among_left x (names_of a) (names_of b) among)))
            ∙ ap (holds (is_live c.memory) k (value h.unit.statics c.here.names a)) (value_placed h.unit.statics home c.here.names held b (λ x among. read_here x (among_right x (names_of a) (names_of b) among)))

        by_found : (o : Option Bool) → DoesSame h (branched c o l m) (branched d o l m)
        by_found None = tt
        by_found (Some true) = go_same l (subst (λ z. Among l (targets_of z)) (sym is) front) fits
        by_found (Some false) = go_same m (subst (λ z. Among m (targets_of z)) (sym is) (behind front)) fits
    end_same (Return None) is fits = returned_same (ended_from c.here.first_object c.memory) c.input Odd c.waiting waiting waits
    end_same (Return (Some a)) is fits =
        subst (λ v. DoesSame h (leave c (value h.unit.statics c.here.names a)) (leave d v)) (sym (value_placed h.unit.statics home c.here.names held a (λ x among. end_reading fits x (subst (λ z. Among x (reads_of_end z)) (sym is) among))))
        (returned_same (ended_from c.here.first_object c.memory) c.input (value h.unit.statics c.here.names a) c.waiting waiting waits)

  -- A step.
  pub step_same : (c d : Configuration) → Related h c d → DoesSame h (step h.unit c) (step (over_homes h) d) ⊎ IsOddNote h.unit c
  step_same c d r = subst (λ z. DoesSame h (step h.unit c) (step (over_homes h) z) ⊎ IsOddNote h.unit c) (sym r.is) (by_rest c.here.rest refl)
    where
      over : Configuration
      over = placed_configuration h c r.held r.shadows r.waiting

      by_rest : (rest : List Instruction) → c.here.rest ≡ rest → DoesSame h (step_from h.unit rest c) (step_from (over_homes h) (map (placed_instruction (home_of h c.here.function)) rest) over) ⊎ IsOddNote h.unit c
      by_rest [] is = inl (end_same c r.held r.shadows r.waiting r.gone r.waits c.here.end refl (subst (λ p. Fits h c.here.function c.here.graph c.here.names c.here.shadows p c.here.end r.held) is r.here))
      by_rest (i ∷ rest) is =
          elim (execute_same (record c { here = record c.here { rest = rest } }) r.held r.shadows r.waiting r.gone r.waits i (subst (λ p. Fits h c.here.function c.here.graph c.here.names c.here.shadows p c.here.end r.held) is r.here)) [
            | inl does ↦ inl does
            | inr odd ↦ inr (record { x = odd.0; recipe = odd.1; rest = rest; next = is ∙ ap (λ j. j ∷ rest) odd.2; odd = odd.3 })
          ]
