-- What an image that is made of a program's unit shows of a scalar in its home is the text of what the program's variable holds.
use Rattle.std.proofs.Common.{◌≡◌, ◌≢◌, ℕ, ◌+◌, ◌-◌, ◌<◌, ◌≤◌, Some, List, [], ◌++◌, length, map, slice_get, sym, ap, ◌∙◌, subst, arith}
use Rattle.std.specs.Prelude.{slice_index}
use Rattle.std.specs.Option.{option_map_or}
use Rattle.std.proofs.lemmas.Option.{same_Some, slice_get_within}
use Rattle.word_base.specs.Owners.{Variable as OfVariable}
use Rattle.c_tree.specs.declared.object_type.ObjectType.TheVariants as type
use Rattle.c_tree.specs.declared.object_type.Scalar.{Scalar}
use Rattle.c_tree.specs.Programs.{ProgramTree, StaticTree, AutomaticTree, LiteralTree}
use Rattle.c_meaning_values.specs.Memory as source-memory
use Rattle.c_meaning_values.specs.Memory.{contents}
use Rattle.memory_map.specs.Maps.{most_words, stub_words}
use Rattle.rv_emit_storage.specs.UnitMaps.{map_of_unit}
use Rattle.image_form.specs.Form.{Form}
use Rattle.image_form.specs.Rules.{IsImage}
use Rattle.image_form.specs.declared.verdicts.Verdict.TheVariants.{Home}
use Rattle.image_build_tables.specs.Spans.{span, code_span}
use Rattle.image_build_tables.specs.Storages.{storages_of}
use Rattle.image_build_tables.specs.Variables.{shape, shapes_of, owner, owners_of, declared_names, name_length, length_of_name, storage}
use Rattle.rv_machine.specs.State.{MachineState}
use Rattle.graph_core.specs.declared.value.Value as unit-value
use Rattle.graph_core.specs.declared.value.Shadow.TheVariants.{Known}
use Rattle.graph_core.specs.Graphs.{Graph}
use Rattle.graph_core.specs.Graphs.{Scalar as UnitScalar}
use Rattle.graph_core.specs.Runs.{Configuration}
use Rattle.graph_core.specs.Runs as unit-run
use Rattle.graph_core.specs.Validity.{IsValid}
use Rattle.graph_homes.specs.declared.home.Home as declared-home
use Rattle.graph_homes.specs.declared.home.Home.TheVariants.{Slot}
use Rattle.rv_emit_tables.specs.Emitted as emitted
use Rattle.rv_emit_runs.proofs.Frames.{all_codes, graph_is, graph_valid}
use Rattle.graph_build_runs.specs.Typed.{AreTyped, OwnersDiffer}
use Rattle.graph_build_runs.specs.Correspondence.{SameMemory, SameValue, Seen}
use Rattle.graph_homes.specs.Homed.{HomedForm, HaveHomes, IsHomeAmong, home_number, home_of, over_homes}
use Rattle.rv_emit_tables.specs.Emitted.{EmittedForm}
use Rattle.rv_emit_runs.specs.Laid.{Arrangement, code_of}
use Rattle.rv_emit_runs.specs.Standing.{StandsAt}
use Rattle.rv_emit_runs.specs.Told.{Tells}
use Rattle.graph_homes.specs.Owned.{IsRunning}
use Rattle.image_truth_units.specs.Units.{HasVariablesIn}
use Rattle.image_truth_units.specs.Variables.{automatic_number, HasElements}
use Rattle.image_truth_units.specs.Standing.{IsDeclared}
use Rattle.image_truth_units.specs.Rows.{IsShown}
use Rattle.image_truth_units.proofs.Kept.{scalar_kept}
use Rattle.image_truth_units.specs.Keeping.{HasPlacesOf}
use Rattle.image_truth_units.proofs.ImageHoldingKept.{keeps_objects, keeps_places}
use Rattle.image_truth_units.proofs.Stops.{kept_at_home}
use Rattle.image_truth_units.proofs.Texts.{tables, scalar_text}

-- An image has a program's tables and a unit's storages and spans; the machine stands at a stop of the unit over homes, whose memory is that of the program's run.
module _ (p : ProgramTree) (m : Form) (functions : map name_length m.functions ≡ map length_of_name p.functions) (variables : map shape m.variables ≡ shapes_of p) (owners : map owner m.variables ≡ owners_of p) (more : List ℕ) (names : m.names ≡ declared_names p ++ more) (rules : IsImage m)
    (static_law : (n : ℕ) (t : StaticTree) → slice_get p.statics n ≡ Some t → (t.name ≢ []) × HasElements t.of) (automatic_law : (x : ℕ) (a : AutomaticTree) → slice_get p.automatics x ≡ Some a → (a.name ≢ []) × HasElements a.of)
    (literal_law : (n : ℕ) (l : LiteralTree) → slice_get p.literals n ≡ Some l → (1 ≤ length l.bytes) × (length l.bytes ≤ 4294967295))
    (h : HomedForm) (valid : IsValid h.unit) (homed : HaveHomes h) (a : Arrangement) (e : EmittedForm) (storages : map storage m.variables ≡ storages_of h e (length m.variables)) (spans : map span m.functions ≡ map code_span e.functions) (words : m.owners ≡ e.owners) (outermost : slice_index e.owners (stub_words e.map - 3) ≡ 0)
    (unit : HasVariablesIn p h.unit) (has : HasPlacesOf h.unit m) (tells : Tells h a e)
    (c : Configuration) (s : MachineState) (regions : e.map ≡ map_of_unit h.unit) (short : length s.code ≤ most_words s.map) (stands : StandsAt h e a c s) (running : IsRunning (over_homes h) c)
    (memory : source-memory.Memory) (same : SameMemory p memory c.memory) (typed : AreTyped memory) (differ : OwnersDiffer memory) (declared : (n : ℕ) (o : source-memory.Object) → slice_get memory n ≡ Some o → IsDeclared p o.owner o) where
  -- a home of a scalar of the innermost activation may be one
  among : (j : ℕ) (g : Graph) → slice_get h.unit.graphs c.here.function ≡ Some g → j < length g.scalars → IsHomeAmong (code_of h a c.here.function).slots (home_of h c.here.function j)
  among j g of lt =
      let graph = graph_valid h.unit valid c.here.function (slice_get_within h.unit.graphs c.here.function g of) in
      let same = graph_is h.unit c.here.function g of in
      let many : length (code_of h a c.here.function).graph.scalars ≡ length g.scalars = ap (λ (y : Graph). length y.scalars) same in
      let scalars = graph.scalars in
      let temporaries = graph.temporaries in
      ((all_codes h valid homed a h.unit c.here.function).storage stands.addresses []).homes j (omega (arith, lt, many, scalars, temporaries))

  -- What is shown of a scalar in its home is the text of what its variable holds, where the home holds what the unit shows of the scalar.
  pub home_text : (x j : ℕ) (v : AutomaticTree) (scalar : Scalar) (g : Graph) (sc : UnitScalar) (frame : unit-run.Frame) → slice_get p.automatics x ≡ Some v → v.of ≡ type.Scalar scalar → slice_get h.unit.graphs c.here.function ≡ Some g → slice_get g.scalars j ≡ Some sc → sc.variable ≡ automatic_number p x
      → Seen p memory c.memory g (length c.waiting + 1) frame x → slice_get frame.shadows j ≡ Some (Known (c.here.names (home_number (home_of h c.here.function j))))
      → IsShown p m s memory v.of (contents (OfVariable x (length c.waiting + 1)) memory) c.here.place (automatic_number p x) Home
  home_text x j v scalar g sc frame declared_is of graph at number seen shown =
      let shadow = seen.shadow j sc at number in
      let kept = scalar_kept p m functions variables owners more names rules h e storages unit tells.many c.here.function j g sc graph at in
      let told = tells.functions c.here.function g graph in
      let code : kept.code ≡ told.code = same_Some kept.code told.code (sym kept.code_is ∙ told.is) in
      let slots : kept.code.slots ≡ (code_of h a c.here.function).storage.slots = ap (λ (y : emitted.FunctionCode). y.slots) code ∙ told.slots in
      let home : home_of h c.here.function j ≡ kept.home = ap (λ r. option_map_or (λ (y : declared-home.Home). y) (slice_get (option_map_or (λ (l : List declared-home.Home). l) r []) j) (Slot 0)) kept.homes_are ∙ ap (λ r. option_map_or (λ (y : declared-home.Home). y) r (Slot 0)) kept.home_is in
      let value : shadow.other ≡ c.here.names (home_number kept.home) = known_is shadow.other (c.here.names (home_number (home_of h c.here.function j))) (sym shadow.known ∙ shown) ∙ ap (λ y. c.here.names (home_number y)) home in
      let alike = subst (SameValue p memory c.memory shadow.value) value shadow.same in
      let within = subst (IsHomeAmong (code_of h a c.here.function).slots) home (among j g graph (slice_get_within g.scalars j sc at)) in
      let keeps = kept_at_home p h valid homed a e m unit.statics (keeps_objects p m functions variables owners more names rules h a e storages unit tells (tables p m functions variables owners more names rules static_law automatic_law literal_law h valid homed a e storages spans words outermost unit has tells c s regions short stands running memory same typed differ declared) literal_law)
      words outermost c s regions short stands running (keeps_places h a e tells m spans has) memory same typed declared (automatic_number p x) kept.code.slots kept.variable kept.home shadow.value (ap (slice_get m.variables) (sym number) ∙ kept.is) kept.storage_is slots within alike in
      scalar_text p m functions variables owners more names rules static_law automatic_law literal_law h valid homed a e storages spans words outermost unit has tells c s regions short stands running memory same typed differ declared
      x seen.number v scalar seen.object shadow.value Home declared_is of seen.is seen.owner seen.lives shadow.holds keeps
    where
      known_is : (y z : unit-value.Value) → Some (Known y) ≡ Some (Known z) → y ≡ z
      known_is y z e = cc
