-- The machine of an image stands at a program's stop: the place, the depth, the activations, and what static variables hold.
use Rattle.std.proofs.Common.{◌≡◌, ◌≢◌, ℕ, suc, ◌+◌, ◌-◌, ◌≤◌, refl, sym, ap, ◌∙◌, subst, arith, Some, List, [], ◌∷◌, ◌++◌, length, map, slice_get}
use Rattle.std.specs.Prelude.{slice_index}
use Rattle.event_runs.specs.Agreement.{Pairs}
use Rattle.word_base.specs.Owners.{Static}
use Rattle.c_tree.specs.Programs.{ProgramTree, StaticTree, AutomaticTree, LiteralTree}
use Rattle.c_places.specs.Places.{places_of_program}
use Rattle.c_places.specs.Places as places
use Rattle.c_meaning_values.specs.Memory as source-memory
use Rattle.c_meaning_values.specs.Memory.{contents}
use Rattle.c_meaning_steps.specs.declared.event.Frame as source-frame
use Rattle.c_meaning_steps.specs.States.{Shown}
use Rattle.memory_map.specs.Maps.{most_words, stub_words}
use Rattle.image_form.specs.Form.{Form}
use Rattle.image_form.specs.Rules.{IsImage}
use Rattle.image_build_tables.specs.Spans.{span, code_span}
use Rattle.image_build_tables.specs.Storages.{storages_of}
use Rattle.image_build_tables.specs.Variables.{shape, shapes_of, owner, owners_of, declared_names, name_length, length_of_name, storage}
use Rattle.rv_machine.specs.State.{MachineState, reg}
use Rattle.rv_machine.specs.Run.{is_stop}
use Rattle.stop_engine_view.specs.Reading.{place_at, depth, frames, frames_from, greatest_depth}
use Rattle.stop_engine_view.specs.Rows.{rows_at}
use Rattle.stop_engine_view.specs.Run as image
use Rattle.stop_engine_view.specs.Values.{held_text}
use Rattle.graph_core.specs.Graphs.{UnitForm}
use Rattle.graph_core.specs.Memory as unit-memory
use Rattle.graph_core.specs.Runs.{Activation, frame}
use Rattle.graph_core.specs.Validity.{IsValid}
use Rattle.graph_build_runs.specs.Correspondence as source
use Rattle.graph_build_runs.specs.Correspondence.{SameMemory, Seen}
use Rattle.graph_homes.specs.Homed.{HomedForm, HaveHomes}
use Rattle.home_assign.specs.Alike.{IsSame, IsSameWaiting}
use Rattle.rv_emit_tables.specs.Emitted.{EmittedForm}
use Rattle.rv_emit_runs.specs.Waiting.{FunctionCode}
use Rattle.rv_emit_runs.specs.Laid as laid
use Rattle.rv_emit_runs.specs.Laid.{IsCode, code_of}
use Rattle.rv_emit_runs.specs.Told.{Tells}
use Rattle.image_truth_units.specs.Texts.{IsObjectText}
use Rattle.image_truth_units.specs.Units.{HasVariablesIn}
use Rattle.image_truth_units.specs.Variables.{HasElements}
use Rattle.image_truth_units.specs.Standing.{Standing, HoldsMemory}
use Rattle.image_truth_units.specs.Keeping.{HasPlacesOf, standings}
use Rattle.image_truth_units.proofs.Frames.{standing_of, many_standings}
use Rattle.image_truth_units.proofs.Texts as texts
use Rattle.image_build.specs.Truthful.{SameVisible, SameStop}
use Rattle.image_build.specs.Meeting.{MeetAt}
use Rattle.image_build.proofs.Frames.{place_of, frames_found, place_found}

-- ---- Places of activations

abbrev pub at_place : Activation → ℕ
at_place b = b.place

abbrev pub at_frame : source-frame.Frame → ℕ
at_frame f = f.place

source_places : (p : ProgramTree) (memory : source-memory.Memory) (others : unit-memory.Memory) (u : UnitForm) (all : List source-frame.Frame) (upper : List Activation) → source.SameFrames p memory others u all (map frame upper) → map at_place upper ≡ map at_frame all
source_places p memory others u [] [] same = refl
source_places p memory others u [] (b ∷ upper) same = absurd same
source_places p memory others u (f ∷ all) [] same = absurd same
source_places p memory others u (f ∷ all) (b ∷ upper) same = ap (λ k. k ∷ map at_place upper) same.0.place ∙ ap (λ l. f.place ∷ l) (source_places p memory others u all upper same.1)

source_many : (p : ProgramTree) (memory : source-memory.Memory) (others : unit-memory.Memory) (u : UnitForm) (all : List source-frame.Frame) (upper : List Activation) → source.SameFrames p memory others u all (map frame upper) → length upper ≡ length all
source_many p memory others u [] [] same = refl
source_many p memory others u [] (b ∷ upper) same = absurd same
source_many p memory others u (f ∷ all) [] same = absurd same
source_many p memory others u (f ∷ all) (b ∷ upper) same = ap (λ k. suc k) (source_many p memory others u all upper same.1)

module _ (h : HomedForm) where
  pub same_place : (a b : Activation) → IsSame h a b → b.place ≡ a.place
  same_place a b is = ap at_place is.placed

  pub same_function : (a b : Activation) → IsSame h a b → b.function ≡ a.function
  same_function a b is = ap (λ (c : Activation). c.function) is.placed

  lower_places : (upper lower : List Activation) → Pairs (IsSameWaiting h) upper lower → map at_place lower ≡ map at_place upper
  lower_places [] [] same = refl
  lower_places [] (b ∷ lower) same = absurd same
  lower_places (a ∷ upper) [] same = absurd same
  lower_places (a ∷ upper) (b ∷ lower) same = ap (λ k. k ∷ map at_place lower) (same_place a b same.0.0) ∙ ap (λ l. a.place ∷ l) (lower_places upper lower same.1)

  lower_many : (upper lower : List Activation) → Pairs (IsSameWaiting h) upper lower → length lower ≡ length upper
  lower_many [] [] same = refl
  lower_many [] (b ∷ lower) same = absurd same
  lower_many (a ∷ upper) [] same = absurd same
  lower_many (a ∷ upper) (b ∷ lower) same = ap (λ k. suc k) (lower_many upper lower same.1)

standing_places : (codes : ℕ → FunctionCode) (sp : ℕ) (stack : List Activation) → map place_of (standings codes sp stack) ≡ map at_place stack
standing_places codes sp [] = refl
standing_places codes sp (b ∷ stack) = ap (λ l. b.place ∷ l) (standing_places codes (sp + (codes b.function).size) stack)

few_enough : (k : ℕ) → k ≤ 1024 → k ≤ greatest_depth
unfolding greatest_depth
few_enough k few = few

-- ---- The stop

-- An image has a program's tables and a unit's storages, spans and code; all meet at a stop.
module _ (p : ProgramTree) (m : Form) (functions : map name_length m.functions ≡ map length_of_name p.functions) (variables : map shape m.variables ≡ shapes_of p) (owners : map owner m.variables ≡ owners_of p) (more : List ℕ) (names : m.names ≡ declared_names p ++ more) (rules : IsImage m)
    (static_law : (n : ℕ) (t : StaticTree) → slice_get p.statics n ≡ Some t → (t.name ≢ []) × HasElements t.of) (automatic_law : (x : ℕ) (a : AutomaticTree) → slice_get p.automatics x ≡ Some a → (a.name ≢ []) × HasElements a.of)
    (literal_law : (n : ℕ) (l : LiteralTree) → slice_get p.literals n ≡ Some l → (1 ≤ length l.bytes) × (length l.bytes ≤ 4294967295))
    (h : HomedForm) (valid : IsValid h.unit) (homed : HaveHomes h) (e : EmittedForm) (code : IsCode h e) (storages : map storage m.variables ≡ storages_of h e (length m.variables)) (spans : map span m.functions ≡ map code_span e.functions) (words : m.owners ≡ e.owners) (outermost : slice_index e.owners (stub_words e.map - 3) ≡ 0)
    (unit : HasVariablesIn p h.unit) (has : HasPlacesOf h.unit m) (tells : Tells h code.arrangement e) (stops_are : (address : ℕ) → is_stop (image.stop_addresses m) address ≡ is_stop (laid.stop_addresses e) address)
    (place deep : ℕ) (activations : List source-frame.Frame) (visible : List Shown) (memory : source-memory.Memory) (s : MachineState) (t : MeetAt p h e code.arrangement place deep activations visible memory s) where
  pub short : length s.code ≤ most_words s.map
  short = subst (λ r. length s.code ≤ most_words r) (sym t.stands.map) (subst (λ c. length c ≤ most_words e.map) (sym t.code) code.short)

  pub same : SameMemory p memory t.lower.memory
  same = subst (SameMemory p memory) (sym t.same.memory) t.holds

  -- the activations that wait, as they stand in the stack
  abbrev pub waiting : List Standing
  waiting = standings (code_of h code.arrangement) (reg s 2 + (code_of h code.arrangement t.lower.here.function).size) t.lower.waiting

  holds_here : HoldsMemory p m memory (standing_of (reg s 2) t.lower.here) waiting s
  holds_here =
      texts.holds p m functions variables owners more names rules static_law automatic_law literal_law h valid homed code.arrangement e storages spans words outermost unit has tells t.lower s code.map short t.stands t.running memory same t.typed t.differ t.stop.declared

  -- all stand at the place
  pub upper_place : t.upper.here.place ≡ place
  upper_place = by_frames activations t.frames t.at
    where
      by_frames : (all : List source-frame.Frame) → source.SameFrames p memory t.upper.memory h.unit all (frame t.upper.here ∷ map frame t.upper.waiting) → source.StandsAt place all → t.upper.here.place ≡ place
      by_frames [] same at = absurd same
      by_frames (f ∷ all) same at = same.0.place ∙ at

  pub here_place : t.lower.here.place ≡ place
  here_place = same_place h t.upper.here t.lower.here t.same.here.0 ∙ upper_place

  pub place_is : place_at m s.pc ≡ Some place
  place_is = place_found h e m code rules words stops_are (record { place = t.lower.here.place; address = s.pc }) t.stands.place ∙ ap (λ k. Some k) here_place

  -- there are as many
  pub many_here : length t.lower.waiting + 1 ≡ deep
  many_here =
      let upper = source_many p memory t.upper.memory h.unit activations (t.upper.here ∷ t.upper.waiting) t.frames in
      let lower = lower_many h t.upper.waiting t.lower.waiting t.same.waiting in
      let all = t.many in
      omega (arith, upper, lower, all)

  pub depth_is : depth s ≡ deep
  depth_is =
      let found = holds_here.depth_is in
      let many = many_standings (code_of h code.arrangement) (reg s 2 + (code_of h code.arrangement t.lower.here.function).size) t.lower.waiting in
      let all = many_here in
      omega (arith, found, many, all)

  pub frames_are : frames m s place ≡ map at_frame activations
  frames_are =
      ap (λ k. frames_from greatest_depth m s k (reg s 2)) (sym here_place)
      ∙ frames_found greatest_depth m s (standing_of (reg s 2) t.lower.here) waiting holds_here.callers (few_enough (length waiting + 1) holds_here.few)
      ∙ ap (λ l. t.lower.here.place ∷ l) (standing_places (code_of h code.arrangement) (reg s 2 + (code_of h code.arrangement t.lower.here.function).size) t.lower.waiting ∙ lower_places h t.upper.waiting t.lower.waiting t.same.waiting)
      ∙ ap (λ k. k ∷ map at_place t.upper.waiting) (same_place h t.upper.here t.lower.here t.same.here.0)
      ∙ source_places p memory t.upper.memory h.unit activations (t.upper.here ∷ t.upper.waiting) t.frames

  -- the variables that are visible
  abbrev pub there : List ℕ
  there = places.visible p.automatics t.stop.at.scope

  -- Each is seen.
  pub seen_here : (k x : ℕ) → slice_get there k ≡ Some x → Seen p memory t.upper.memory t.upper.here.graph deep (frame t.upper.here) x
  seen_here k x is = by_frames activations t.frames t.at t.many
    where
      by_frames : (all : List source-frame.Frame) → source.SameFrames p memory t.upper.memory h.unit all (frame t.upper.here ∷ map frame t.upper.waiting) → source.StandsAt place all → deep ≡ length all → Seen p memory t.upper.memory t.upper.here.graph deep (frame t.upper.here) x
      by_frames [] same at many = absurd same
      by_frames (f ∷ all) same at many =
          let depth : length all + 1 ≡ deep = omega (arith, many) in
          subst (λ d. Seen p memory t.upper.memory t.upper.here.graph d (frame t.upper.here) x) depth
          (same.0.seen t.upper.here.graph t.stop.at x (ap (slice_get h.unit.graphs) (sym same.0.function) ∙ t.same.here.0.of) (ap (λ n. slice_get (places_of_program p) (n - 1)) at ∙ t.stop.is) k is)

  -- So it is over homes.
  pub seen_lower : (k x : ℕ) → slice_get there k ≡ Some x → Seen p memory t.lower.memory t.upper.here.graph (length t.lower.waiting + 1) (frame t.upper.here) x
  seen_lower k x is =
      subst (λ n. Seen p memory n t.upper.here.graph (length t.lower.waiting + 1) (frame t.upper.here) x) (sym t.same.memory)
      (subst (λ d. Seen p memory t.upper.memory t.upper.here.graph d (frame t.upper.here) x) (sym many_here) (seen_here k x is))

  -- static variables are shown with what they hold
  pub statics_are : (n : ℕ) (v : StaticTree) → slice_get p.statics n ≡ Some v → IsObjectText p memory v.of (contents (Static n) memory) (held_text m s place n)
  statics_are n v is =
      let o = t.stop.statics n v is in
      subst (λ k. IsObjectText p memory v.of (contents (Static n) memory) (held_text m s k n)) here_place
      (texts.static_text p m functions variables owners more names rules static_law automatic_law literal_law h valid homed code.arrangement e storages spans words outermost unit has tells t.lower s code.map short t.stands t.running memory same t.typed t.differ t.stop.declared
      n o.number v o.object is o.is o.owned o.phase)

  -- The machine stands at the program's stop, where what rows show is so.
  pub stopped : Pairs (SameVisible p m s memory) visible (rows_at place m.rows) → SameStop p m place deep activations visible memory s
  stopped visible_are = record { at_place = place_is; at_depth = depth_is; frames_are = frames_are; visible_are = visible_are; statics_are = statics_are }
