-- The machine that stands where the unit of a program is at a stop holds the memory of the program's run.
use Rattle.std.proofs.Common.{◌≡◌, ℕ, zero, suc, ◌+◌, ◌-◌, ◌*◌, ◌<◌, ◌≤◌, inl, inr, true, false, Some, ◌∷◌, length, slice_get, refl, sym, ap, ◌∙◌, subst, arith}
use Rattle.std.specs.Prelude.{◌==◌, slice_index}
use Rattle.std.specs.Option.{option_map_or}
use Rattle.std.proofs.lemmas.Bool.{eq-eqb}
use Rattle.std.proofs.lemmas.Option.{slice_get_within}
use Rattle.word_base.specs.Owners.{Owner, Static, Literal, Variable as OfVariable}
use Rattle.c_tree.specs.Programs.{ProgramTree}
use Rattle.c_type_rules.specs.Types.{loaded_type}
use Rattle.c_meaning_values.specs.Types.{scalar_size}
use Rattle.c_meaning_values.specs.Memory as source-memory
use Rattle.image_build_tables.specs.Variables.{element_by_stars}
use Rattle.memory_map.specs.declared.map.Map.{Map}
use Rattle.memory_map.specs.Maps.{most_words, stub_words}
use Rattle.memory_map.proofs.Facts.{map_facts}
use Rattle.rv_emit_storage.specs.UnitMaps.{map_of_unit}
use Rattle.image_form.specs.Form.{Form}
use Rattle.image_form.specs.declared.variables.Storage.TheVariants as kept
use Rattle.rv_machine.specs.State.{MachineState, reg}
use Rattle.stop_engine_view.specs.Pointers.{is_variable_of}
use Rattle.stop_engine_view.specs.Words.{element_word}
use Rattle.graph_core.specs.declared.value.Owner.TheVariants as unit-owner
use Rattle.graph_core.specs.Memory as unit-memory
use Rattle.graph_core.specs.Runs.{Configuration}
use Rattle.graph_core.specs.Validity.{IsValid}
use Rattle.graph_core.specs.Values.{size_of}
use Rattle.graph_build_runs.specs.Typed.{AreTyped, IsOf}
use Rattle.graph_build_runs.specs.Correspondence as source
use Rattle.graph_build_runs.specs.Correspondence.{SameObject, SameMemory, Held}
use Rattle.graph_homes.specs.Homed.{HomedForm, HaveHomes, over_homes}
use Rattle.rv_emit_steps.specs.Holding.{memory_of}
use Rattle.rv_emit_tables.specs.Emitted.{EmittedForm}
use Rattle.rv_emit_storage.specs.Storages.{object_at}
use Rattle.rv_emit_steps.specs.Meaning.{HoldsBits, bits_at, IsInMemory as LiesIn}
use Rattle.rv_emit_runs.specs.Laid.{Arrangement, code_of}
use Rattle.rv_emit_runs.specs.Standing.{StandsAt}
use Rattle.image_truth_units.specs.Variables.{static_count, automatic_number}
use Rattle.image_truth_units.specs.Standing.{IsArea, IsStaticArea, IsFrameArea, IsDeclared, IsInMemory, StandsInMemory, HoldsMemory}
use Rattle.image_truth_units.proofs.Tables.{all_at}
use Rattle.image_truth_units.specs.Keeping.{KeepsObjectsOf, KeepsPlacesOf, IsPlaced, standings}
use Rattle.image_truth_units.proofs.Reading.{AreInside, element_is}
use Rattle.image_truth_units.proofs.Frames.{start_of, standing_of, standing_there, many_standings, frame_there, callers_found}
use Rattle.image_truth_units.proofs.ImageHoldingAreas.{area_inside, areas_apart}
use Rattle.graph_homes.specs.Owned.{IsRunning}
use Rattle.image_truth_units.proofs.Running.{placed_all, object_at_depth}
use Rattle.image_truth_units.proofs.ImageHoldingValues as values
use Rattle.image_truth_units.proofs.ImageHoldingValues.{bits_mean, value_at}

times_within : (i count size : ℕ) → i < count → i * size + size ≤ count * size
times_within zero zero size lt = absurd (omega (arith, lt))
times_within zero (suc count) size lt = omega arith
times_within (suc i) zero size lt = absurd (omega (arith, lt))
times_within (suc i) (suc count) size lt = let rest = times_within i count size (omega (arith, lt)) in omega (arith, rest)

module _ (p : ProgramTree) (h : HomedForm) (valid : IsValid h.unit) (homed : HaveHomes h) (a : Arrangement) (e : EmittedForm) (m : Form) (count : length h.unit.statics ≡ static_count p) (keeps : KeepsObjectsOf h a m) (owners : m.owners ≡ e.owners) (outermost : slice_index e.owners (stub_words e.map - 3) ≡ 0)
    (c : Configuration) (s : MachineState) (regions : e.map ≡ map_of_unit h.unit) (short : length s.code ≤ most_words s.map) (stands : StandsAt h e a c s) (running : IsRunning (over_homes h) c) (places : KeepsPlacesOf h a m)
    (memory : source-memory.Memory) (same : SameMemory p memory c.memory) (typed : AreTyped memory) (declared : (n : ℕ) (o : source-memory.Object) → slice_get memory n ≡ Some o → IsDeclared p o.owner o) where
  -- ---- Where objects are

  static_area : (number n k : ℕ) (q : unit-memory.Object) → slice_get c.memory n ≡ Some q → q.live ≡ true → q.owner ≡ unit-owner.Static number → IsStaticArea m number (stands.addresses n) (unit-memory.bytes_of q)
  static_area number n k q is live owner =
      let its = running.owned.statics n number q is live owner in
      let kept_there = keeps.statics n its.object its.is in
      let address = stands.statics n (slice_get_within h.unit.statics n its.object its.is) in
      subst (λ i. IsStaticArea m i (stands.addresses n) (unit-memory.bytes_of q)) (sym its.same)
      (record { variable = kept_there.variable; is = kept_there.is; storage = kept_there.there ∙ ap (λ i. kept.Static i) (sym address); size = its.bytes ∙ sym kept_there.size })

  frame_area : (x deep n : ℕ) (q : unit-memory.Object) → slice_get c.memory n ≡ Some q → q.live ≡ true → q.owner ≡ unit-owner.Automatic x deep → IsFrameArea m (standings (code_of h a) (reg s 2) (c.here ∷ c.waiting)) x deep (stands.addresses n) (unit-memory.bytes_of q)
  frame_area x deep n q is live owner =
      let its = object_at_depth h a c running n x deep q is live owner in
      let there = keeps.objects its.activation.function its.number its.object its.is in
      let frame = frame_there h a e stands.addresses (memory_of s.map s.bytes s.stack) (reg s 2) c.here c.waiting its.index its.activation stands.stack its.there in
      let place = all_at (IsPlaced h a m) (c.here ∷ c.waiting) its.index its.activation (placed_all h a m places c running) its.there in
      let many = many_standings (code_of h a) (reg s 2) (c.here ∷ c.waiting) in
      let deep_is = its.deep in
      record {
        index = its.index;
        activation = standing_of (start_of (code_of h a) (reg s 2) (c.here ∷ c.waiting) its.index) its.activation;
        there = standing_there (code_of h a) (reg s 2) (c.here ∷ c.waiting) its.index its.activation its.there;
        deep = omega (arith, many, deep_is);
        variable = there.variable;
        is = ap (slice_get m.variables) (sym its.var) ∙ there.is;
        own = ap (λ f. is_variable_of f there.variable) place.function ∙ ap (λ o. option_map_or (λ g. g == its.activation.function) o false) there.owner ∙ eq-eqb its.activation.function its.activation.function refl;
        offset = object_at (code_of h a its.activation.function).storage its.number;
        storage = there.there;
        starts = ap stands.addresses its.at ∙ frame.objects its.number (slice_get_within (code_of h a its.activation.function).graph.objects its.number its.object its.is);
        size = its.bytes ∙ sym there.size;
      }

  -- an object of the unit stands where its owner's is
  pub object_area : (n k : ℕ) (o : source-memory.Object) (q : unit-memory.Object) → slice_get memory k ≡ Some o → slice_get c.memory n ≡ Some q → SameObject p o q → IsArea p m (standings (code_of h a) (reg s 2) (c.here ∷ c.waiting)) o.owner (stands.addresses n) (unit-memory.bytes_of q)
  object_area n k o q is there alike = by_owner o.owner alike.owner (declared k o is)
    where
      by_owner : (owner : Owner) → q.owner ≡ source.owner_of p owner → IsDeclared p owner o → IsArea p m (standings (code_of h a) (reg s 2) (c.here ∷ c.waiting)) owner (stands.addresses n) (unit-memory.bytes_of q)
      by_owner (Static i) owner its = (slice_get_within p.statics i its.0 its.1, static_area i n k q there alike.lives owner)
      by_owner (Literal i) owner its = (slice_get_within p.literals i its.0 its.1, static_area (length p.statics + i) n k q there alike.lives owner)
      by_owner (OfVariable x deep) owner its = frame_area (automatic_number p x) deep n q there alike.lives owner

  -- ---- What they hold

  inside_element : (m : Map) (start bytes at size : ℕ) → at + size ≤ bytes → LiesIn m start bytes → AreInside m (start + at) size
  inside_element m start bytes at size within (inl (low, high)) = inl (omega (arith, low), omega (arith, high, within))
  inside_element m start bytes at size within (inr (low, high)) = inr (omega (arith, low), omega (arith, high, within))

  object_stands : (k : ℕ) (o : source-memory.Object) → slice_get memory k ≡ Some o → Held p memory c.memory o → StandsInMemory p m (standings (code_of h a) (reg s 2) (c.here ∷ c.waiting)) memory s o
  object_stands k o is held_there = record {
    start = stands.addresses held_there.number;
    bytes = unit-memory.bytes_of held_there.object;
    area = area;
    values = λ i v at.
        let w = value_at p memory c.memory o.values held_there.object.values i v held_there.values at in
        let holds = stands.objects held_there.number held_there.object held_there.is held_there.same.lives i w.0 w.1 in
        let of = values.typed memory o.element v (all_at (IsOf memory (loaded_type o.element)) o.values i v (typed k o is) at) in
        let wide = times_within i (length held_there.object.values) (scalar_size o.element) (slice_get_within held_there.object.values i w.0 w.1) in
        let whole : unit-memory.bytes_of held_there.object ≡ length held_there.object.values * scalar_size o.element = ap (λ z. length held_there.object.values * z) size in
        let inside = inside_element s.map (stands.addresses held_there.number) (unit-memory.bytes_of held_there.object) (i * scalar_size o.element) (scalar_size o.element) (omega (arith, wide, whole)) region in
        let bits = subst (λ z. HoldsBits stands.addresses c.memory z w.0 (bits_at (memory_of s.map s.bytes s.stack) z (stands.addresses held_there.number + i * z))) size holds in
        let read = element_is s o.element.base o.element.stars (stands.addresses held_there.number + i * scalar_size o.element) short inside in
        bits_mean p m (standings (code_of h a) (reg s 2) (c.here ∷ c.waiting)) memory c.memory stands.addresses object_area o.element.base o.element.stars v w.0 (element_word s (element_by_stars o.element.base o.element.stars) (stands.addresses held_there.number + i * scalar_size o.element)) of w.2
        (subst (λ z. HoldsBits stands.addresses c.memory (scalar_size o.element) w.0 z) (sym read) bits);
  }
    where
      size : size_of held_there.object.element ≡ scalar_size o.element
      size = ap size_of held_there.same.element ∙ values.element_size o.element

      area : IsArea p m (standings (code_of h a) (reg s 2) (c.here ∷ c.waiting)) o.owner (stands.addresses held_there.number) (unit-memory.bytes_of held_there.object)
      area = object_area held_there.number k o held_there.object is held_there.is held_there.same

      region : LiesIn s.map (stands.addresses held_there.number) (unit-memory.bytes_of held_there.object)
      region = subst (λ r. LiesIn r (stands.addresses held_there.number) (unit-memory.bytes_of held_there.object)) (sym stands.map) (area_inside p h valid homed a m e regions stands.addresses (memory_of s.map s.bytes s.stack) count keeps (reg s 2) c.here c.waiting stands.stack (placed_all h a m places c running) o.owner (stands.addresses held_there.number) (unit-memory.bytes_of held_there.object) area)

  kept_in_memory : (owner : Owner) → IsInMemory p owner → source.IsInMemory p owner
  kept_in_memory (Static n) inside = tt
  kept_in_memory (Literal n) inside = tt
  kept_in_memory (OfVariable x deep) inside = inside

  bounded : (m : Map) (start bytes : ℕ) → LiesIn m start bytes → (1 ≤ start) × (start + bytes < 4294967296)
  bounded m start bytes (inl (low, high)) =
      let least = (map_facts m).low in let apart = (map_facts m).apart in let whole = (map_facts m).whole in
      (omega (arith, low, least), omega (arith, high, apart, whole))
  bounded m start bytes (inr (low, high)) =
      let least = (map_facts m).low in let apart = (map_facts m).apart in let whole = (map_facts m).whole in
      (omega (arith, low, least, apart), omega (arith, high, whole))

  -- The machine holds the memory of the program's run.
  pub holds_memory : HoldsMemory p m memory (standing_of (reg s 2) c.here) (standings (code_of h a) (reg s 2 + (code_of h a c.here.function).size) c.waiting) s
  holds_memory =
      let many = many_standings (code_of h a) (reg s 2 + (code_of h a c.here.function).size) c.waiting in
      let few = stands.depth in
      record {
        frame = refl;
        depth_is = omega (arith, few, many);
        few = omega (arith, few, many);
        callers = callers_found h a e stands.addresses m s stands.map owners outermost (reg s 2) c.here c.waiting stands.stack (placed_all h a m places c running);
        inside = λ o start bytes area. bounded e.map start bytes (area_inside p h valid homed a m e regions stands.addresses (memory_of s.map s.bytes s.stack) count keeps (reg s 2) c.here c.waiting stands.stack (placed_all h a m places c running) o start bytes area);
        apart = λ o q start other bytes its differ first second. areas_apart p h valid homed a m e regions stands.addresses (memory_of s.map s.bytes s.stack) count keeps (reg s 2) c.here c.waiting stands.stack (placed_all h a m places c running) o q start other bytes its differ first second;
        typed = λ n i o v is at. values.typed memory o.element v (all_at (IsOf memory (loaded_type o.element)) o.values i v (typed n o is) at);
        declared = declared;
        objects = λ n o is live inside. object_stands n o is (same n o is live (kept_in_memory o.owner inside));
      }
