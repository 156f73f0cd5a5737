-- An image runs true to a program behind passes, where the program's stops are the machine's, layer by layer.
use Rattle.std.proofs.Common.{◌≡◌, ℕ, ◌*◌, ◌<◌, ◌≤◌, refl, sym, ap, ◌∙◌, subst, arith, true, ℤ, pos, negsuc, List, [], ◌∷◌, length, map}
use Rattle.std.specs.Prelude.{int_le}
use Rattle.std.specs.List.{AllByRecursion}
use Rattle.std.specs.Int.{cast_signed, cast_unsigned, w32}
use Rattle.std.specs.Int.RustNames.{FitsSigned}
use Rattle.std.proofs.lemmas.Bool.{leb-true, and_parts}
use Rattle.std.proofs.lemmas.Int.{ints, to_z-of_z}
use Rattle.word_base.specs.Types.{holds}
use Rattle.c_tree.specs.declared.types.IntegerType.TheVariants.{Int}
use Rattle.c_tree.specs.Programs.{ProgramTree}
use Rattle.c_type_rules.specs.Integers.{integer}
use Rattle.c_meaning_values.specs.Memory as source-memory
use Rattle.c_meaning_steps.specs.declared.event.Frame as source-frame
use Rattle.c_meaning_steps.specs.States as source
use Rattle.c_meaning_steps.specs.States.{Event, Shown}
use Rattle.image_form.specs.Form.{Form}
use Rattle.rv_machine.specs.State.{MachineState}
use Rattle.rv_machine.specs.Table.{started}
use Rattle.rv_machine.specs.Run as machine
use Rattle.rv_machine.specs.Run.{MachineEvent, machine_run, is_stop}
use Rattle.stop_engine_view.specs.Run as image
use Rattle.event_runs.specs.Agreement.{Agree, Pairs}
use Rattle.event_runs.specs.Following.{Follows, Reached, Both}
use Rattle.event_runs.proofs.Following.{follows_agree, follows_reach}
use Rattle.graph_core.specs.Graphs.{UnitForm}
use Rattle.graph_core.specs.Memory as unit-memory
use Rattle.graph_core.specs.Runs as unit
use Rattle.graph_core.specs.Runs.{unit_run, frame}
use Rattle.graph_build_names.specs.Conversions.{unsigned_bits}
use Rattle.graph_build_runs.specs.Correspondence as built
use Rattle.graph_build_runs.specs.Correspondence.{AreBytes}
use Rattle.graph_build_runs.specs.Typed.{AreTyped, OwnersDiffer}
use Rattle.graph_homes.specs.Homed.{HomedForm, over_homes}
use Rattle.graph_homes.specs.Seen.{Seen, event_of, seen_run}
use Rattle.graph_homes.proofs.Events.{seen_run_events}
use Rattle.home_assign.specs.Alike as homed
use Rattle.home_assign.specs.Running.{Leads, LeadsOverHomes}
use Rattle.rv_emit_tables.specs.Emitted.{EmittedForm}
use Rattle.rv_emit_runs.specs.Laid.{Arrangement, stop_addresses}
use Rattle.rv_emit_runs.specs.Running.{emitted_run}
use Rattle.rv_emit_runs.specs.Standing as emitted
use Rattle.rv_emit_runs.specs.InTime.{FollowsInTime}
use Rattle.graph_homes.specs.Owned.{IsRunning, IsSeenRunning}
use Rattle.graph_homes.proofs.Steps.{all_running}
use Rattle.image_build.specs.Truthful.{SameStop, SameEvent, byte, stop, exited, deep, events_of, RunsTrue}
use Rattle.image_build.specs.Sources.{IsEventOf, IsStopOf}
use Rattle.image_build.specs.Meeting.{MeetAt}
use Rattle.image_build.proofs.Joining.{leads_front, Through, joined, follows_by, follows_kept}
use Rattle.image_build.proofs.Runs.{run_grows, run_same, HasCode, run_has}
use Rattle.pass_law.specs.Keeps as passed
use Rattle.pass_law.specs.Keeps.{SameFunction}
use Rattle.image_build.proofs.Carried.{frames_same}
use Rattle.image_build.proofs.Shadowed.{shadowed, all_shadowed, frames_are, are_same, are_shown}

-- the int of the word of an int is that int
int_again : (z : ℤ) → holds (integer Int) z ≡ true → cast_signed w32 (unsigned_bits z) ≡ z
int_again (pos n) h = let le : n ≤ 2147483647 = leb-true n 2147483647 h in omega (arith, ints, le)
int_again (negsuc n) h =
    let le : n ≤ 2147483647 = leb-true n 2147483647 (and_parts (int_le (negsuc 2147483647) (negsuc n)) true h).0 in
    let fits : FitsSigned w32 (negsuc n) = record { sfits = omega (arith, le) } in
    let same : unsigned_bits (negsuc n) ≡ cast_unsigned w32 (negsuc n) = omega (arith, ints, le) in
    ap (cast_signed w32) same ∙ to_z-of_z w32 (negsuc n) fits

are_bytes : (input : List ℕ) → AllByRecursion (λ b. b < 256) input → AreBytes input
are_bytes [] all = tt
are_bytes (b ∷ input) all = (all.0, are_bytes input all.1)

-- The unit has the functions of the first one, and shows on each input what the program does, by way of what the first one shows.
module _ (p : ProgramTree) (first : UnitForm) (h : HomedForm) (m : Form) (e : EmittedForm) (a : Arrangement)
    -- the layers
    (functions : Pairs SameFunction first.graphs h.unit.graphs) (statics : h.unit.statics ≡ first.statics)
    (does : (input : List ℕ) → AreBytes input → (turns : ℕ) → Reached (Both (built.SameEvent p first) passed.SameEvent) (events_of p input turns) (unit_run h.unit input)) (leads : LeadsOverHomes h) (in_time : FollowsInTime h e a)
    -- the image has the code
    (map_is : m.version.map ≡ e.map) (code_is : m.code ≡ e.code) (initial_is : m.initial ≡ e.initial) (stops_are : (address : ℕ) → is_stop (image.stop_addresses m) address ≡ is_stop (stop_addresses e) address)
    -- what is so of each event of the program
    (source_events : (input : List ℕ) → AreBytes input → (turns : ℕ) → AllByRecursion (IsEventOf p) (events_of p input turns))
    -- where all meet at a stop, the machine stands at the program's stop
    (same_stop : (place deep : ℕ) (activations : List source-frame.Frame) (visible : List Shown) (memory : source-memory.Memory) (s : MachineState) → MeetAt p h e a place deep activations visible memory s → SameStop p m place deep activations visible memory s) where
  -- ---- Events

  -- an event of the program and one of the unit: one of the first unit is both
  abbrev First : Event → unit.Event → Type 0
  First = Both (built.SameEvent p first) passed.SameEvent

  abbrev Met : Event → MachineEvent → Type 0
  Met = Through event_of (IsEventOf p) (IsSeenRunning (over_homes h)) First (homed.SameSeen h) (emitted.SameSeen h e a)

  -- where all meet, with the shadows that the first unit shows
  meet : (place depth : ℕ) (activations : List source-frame.Frame) (visible : List Shown) (memory : source-memory.Memory) (seen : List unit.Frame) (others : unit-memory.Memory) (c d : unit.Configuration) (s : MachineState)
      → IsStopOf p place depth visible memory → built.StandsAt place activations → depth ≡ length activations → built.SameFrames p memory others first activations seen → AreTyped memory → OwnersDiffer memory → built.SameMemory p memory others
      → Pairs passed.SameFrame seen (frame c.here ∷ map frame c.waiting) → others ≡ c.memory → homed.AreSame h c d → homed.AreShown h c.here d.here → IsRunning (over_homes h) d → emitted.StandsAt h e a d s → s.code ≡ e.code
      → MeetAt p h e a place depth activations visible memory s
  meet place depth activations visible memory [] others c d s of at many same typed differ holds pairs memory_is alike shown runs stands has = absurd pairs
  meet place depth activations visible memory (f ∷ fs) others c d s of at many same typed differ holds pairs memory_is alike shown runs stands has =
      let frames = frames_are (c.here ∷ c.waiting) (f ∷ fs) pairs in
      let units = frames_same first h.unit statics functions p memory others activations (f ∷ fs) same in
      record {
        upper = record c { here = shadowed c.here f; waiting = all_shadowed c.waiting fs };
        lower = d;
        stop = of;
        at = at;
        many = many;
        frames = subst (λ k. built.SameFrames p memory k h.unit activations (frame (shadowed c.here f) ∷ map frame (all_shadowed c.waiting fs))) memory_is (subst (built.SameFrames p memory others h.unit activations) (sym frames) units);
        typed = typed;
        differ = differ;
        holds = subst (built.SameMemory p memory) memory_is holds;
        same = are_same h c d f fs alike;
        shown = are_shown h c.here d.here f pairs.0 shown;
        running = runs;
        stands = stands;
        code = has;
      }

  said : (x : Event) (upper lower : Seen) (y : MachineEvent) → IsEventOf p x → IsSeenRunning (over_homes h) lower → First x (event_of upper) → homed.SameSeen h upper lower → emitted.SameSeen h e a lower y → HasCode e.code y → SameEvent p m x y
  said x upper lower y of runs ahead homed.over emitted.deep has = by_first x ahead.0 ahead.2 ahead.1
    where
      by_first : (x : Event) (z : unit.Event) → passed.SameEvent z unit.TooDeep → built.SameEvent p first x z → SameEvent p m x machine.TooDeep
      by_first x z passed.deep built.deep = deep
  said x upper lower y of runs ahead homed.over (emitted.exited {status = status}) has = by_first x status of ahead.0 ahead.2 ahead.1
    where
      by_first : (x : Event) (k : ℕ) → IsEventOf p x → (z : unit.Event) → passed.SameEvent z (unit.Exited k) → built.SameEvent p first x z → SameEvent p m x (machine.Exit (cast_signed w32 k))
      by_first x k of z passed.exited (built.exited {status = n} is) = subst (λ i. SameEvent p m (source.Exited n) (machine.Exit i)) (sym (int_again n of)) exited
  said x upper lower y of runs ahead (homed.byte same) (emitted.byte {b = b}) has = by_first x ahead.0 ahead.2 ahead.1
    where
      by_first : (x : Event) (z : unit.Event) → passed.SameEvent z (unit.Put b) → built.SameEvent p first x z → SameEvent p m x (machine.Byte b)
      by_first x z passed.byte built.put = byte
  said x upper lower y of runs ahead (homed.stop {frames = frames} {memory = others} {c = c} {d = d} frames_is memory_is alike same shown) (emitted.stop {s = s} stands) has = by_first x of ahead.0 ahead.2 ahead.1
    where
      by_first : (x : Event) → IsEventOf p x → (z : unit.Event) → passed.SameEvent z (unit.Stop frames others) → built.SameEvent p first x z → SameEvent p m x (machine.Arrival s)
      by_first x of z (passed.stop pairs) (built.stop {place = place} {depth = depth} {frames = activations} {shown = visible} {memory = memory} {seen = seen} is at many same_frames typed differ same_memory) =
          stop (same_stop place depth activations visible memory s (meet place depth activations visible memory seen others c d s of at many same_frames typed differ same_memory (subst (Pairs passed.SameFrame seen) frames_is pairs) memory_is same shown runs stands has))

  abbrev MetThere : Event → MachineEvent → Type 0
  MetThere x y = Met x y × HasCode e.code y

  met : (x : Event) (y : MachineEvent) → MetThere x y → SameEvent p m x y
  met x y t = said x t.0.upper t.0.lower y t.0.of t.0.runs t.0.first t.0.second t.0.third t.1

  -- ---- Runs

  -- the run of the image is that of the code
  image_is : (input : List ℕ) (limit : ℕ) → image.image_run m input limit ≡ emitted_run e input limit
  image_is input limit =
      ap (λ r. machine_run (image.stop_addresses m) limit (started r m.code m.initial input)) map_is
      ∙ ap (λ c. machine_run (image.stop_addresses m) limit (started e.map c m.initial input)) code_is ∙ ap (λ i. machine_run (image.stop_addresses m) limit (started e.map e.code i input)) initial_is
      ∙ run_same (image.stop_addresses m) (stop_addresses e) stops_are limit (started e.map e.code e.initial input)

  -- it follows the program's events
  follows : (input : List ℕ) → AllByRecursion (λ b. b < 256) input → (turns : ℕ) → Follows (SameEvent p m) (1025 * length e.code) (1025 * length e.code) (events_of p input turns) (emitted_run e input)
  unfolding started
  follows input bytes turns =
      let reached : Reached First (events_of p input turns) (unit_run h.unit input) = does input (are_bytes input bytes) turns in
      let n : ℕ = reached.steps in
      let front = leads_front First (events_of p input turns) reached.shown reached.more reached.same in
      let above : Leads First (events_of p input turns) (map event_of (seen_run h.unit input n)) =
      subst (Leads First (events_of p input turns)) (sym (seen_run_events h.unit input n ∙ reached.is)) front in
      follows_by MetThere (SameEvent p m) met (1025 * length e.code) (1025 * length e.code) (events_of p input turns) (emitted_run e input)
      (follows_kept Met (HasCode e.code) (1025 * length e.code) (1025 * length e.code) (events_of p input turns) (emitted_run e input) (λ k. run_has (stop_addresses e) e.code k (started e.map e.code e.initial input) refl)
      (joined event_of (IsEventOf p) (IsSeenRunning (over_homes h)) First (homed.SameSeen h) (emitted.SameSeen h e a)
      (1025 * length e.code) (1025 * length e.code) (events_of p input turns) (seen_run h.unit input n) (seen_run (over_homes h) input n) (emitted_run e input)
      (source_events input (are_bytes input bytes) turns) (all_running (over_homes h) input n) above (leads input n) (in_time input bytes n)))

  -- The image runs true to the program.
  pub runs_true : RunsTrue p m
  runs_true input bytes = record {
    agree = λ turns limit. subst (Agree (SameEvent p m) (events_of p input turns)) (sym (image_is input limit))
        (follows_agree (SameEvent p m) (1025 * length e.code) (1025 * length e.code) (events_of p input turns) (emitted_run e input) (follows input bytes turns) (run_grows (stop_addresses e) (started e.map e.code e.initial input)) limit);
    reach = λ turns i limit within enough. subst (λ l. i ≤ length l) (sym (image_is input limit))
        (follows_reach (SameEvent p m) (1025 * length e.code) (events_of p input turns) (emitted_run e input) (follows input bytes turns) i limit within (subst (λ c. i * (1025 * length c) ≤ limit) code_is enough));
  }
