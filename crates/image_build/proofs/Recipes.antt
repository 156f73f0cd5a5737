-- What an image that is made of a program's unit recovers of a scalar is the text of what the program's variable holds.
use Rattle.std.proofs.Common.{◌≡◌, ◌≢◌, ℕ, ◌+◌, ◌-◌, ◌≤◌, true, Option, Some, None, List, [], ◌∷◌, ◌++◌, length, map, slice_get, refl, sym, ap, ◌∙◌, subst}
use Rattle.std.specs.Prelude.{slice_index, option_map}
use Rattle.std.proofs.lemmas.Option.{none-some, same_Some}
use Rattle.word_base.specs.Owners.{Variable as OfVariable}
use Rattle.c_tree.specs.declared.object_type.ObjectType.TheVariants as type
use Rattle.c_tree.specs.declared.object_type.Scalar.{Scalar}
use Rattle.c_tree.specs.Programs.{ProgramTree, StaticTree, AutomaticTree, LiteralTree}
use Rattle.c_meaning_values.specs.Memory as source-memory
use Rattle.c_meaning_values.specs.declared.value.Phase.TheVariants.{Live}
use Rattle.c_meaning_values.specs.Memory.{contents}
use Rattle.memory_map.specs.Maps.{most_words, stub_words}
use Rattle.rv_emit_storage.specs.UnitMaps.{map_of_unit}
use Rattle.image_form.specs.Form.{Form}
use Rattle.image_form.specs.Rules.{IsImage}
use Rattle.image_form.specs.declared.variables.Storage.TheVariants as kept
use Rattle.image_form.specs.declared.variables.Variable.{Variable}
use Rattle.image_form.specs.declared.verdicts.Verdict.TheVariants.{Recovered}
use Rattle.image_build_tables.specs.Spans.{span, code_span}
use Rattle.image_build_tables.specs.Storages.{storage_of, storages_of}
use Rattle.image_build_tables.specs.Variables.{shape, shapes_of, owner, owners_of, declared_names, name_length, length_of_name, storage}
use Rattle.rv_machine.specs.State.{MachineState, reg}
use Rattle.stop_engine_view.specs.Recipes.{recipe_value}
use Rattle.stop_engine_view.specs.Values.{recipe_levels}
use Rattle.rv_emit_steps.specs.Meaning.{Means}
use Rattle.graph_core.specs.declared.value.Value as unit-value
use Rattle.graph_core.specs.declared.value.Shadow.TheVariants.{Known}
use Rattle.graph_core.specs.Graphs.{Graph}
use Rattle.graph_core.specs.Graphs.{Scalar as UnitScalar}
use Rattle.graph_core.specs.Runs.{Configuration}
use Rattle.graph_core.specs.Runs as unit-run
use Rattle.graph_core.specs.Validity.{IsValid}
use Rattle.graph_homes.specs.declared.home.Home as declared-home
use Rattle.graph_homes.specs.declared.home.Home.TheVariants.{Register, Slot}
use Rattle.graph_build_runs.specs.Typed.{AreTyped, OwnersDiffer}
use Rattle.graph_build_runs.specs.Correspondence.{IsInMemory, SameMemory, SameValue, Seen, owner_of}
use Rattle.graph_homes.specs.Homed.{HomedForm, HaveHomes, over_homes}
use Rattle.rv_emit_tables.specs.Emitted.{EmittedForm}
use Rattle.rv_emit_runs.specs.Laid.{Arrangement, code_of}
use Rattle.rv_emit_runs.specs.Standing.{StandsAt}
use Rattle.rv_emit_runs.specs.Told.{Tells}
use Rattle.graph_homes.specs.Owned.{IsRunning}
use Rattle.image_truth_units.specs.Units.{HasVariablesIn}
use Rattle.image_truth_units.specs.Variables.{automatic_number, HasElements}
use Rattle.image_truth_units.specs.Standing.{IsDeclared}
use Rattle.image_truth_units.specs.Rows.{IsShown}
use Rattle.image_truth_units.proofs.Kept.{scalar_kept}
use Rattle.image_truth_units.specs.Keeping.{HasPlacesOf, standings}
use Rattle.image_truth_units.proofs.ImageHoldingKept.{keeps_objects, keeps_places}
use Rattle.image_truth_units.proofs.Running.{object_at_depth}
use Rattle.image_truth_units.proofs.ImageHoldingValues.{value_means}
use Rattle.image_truth_units.proofs.Whole.{object_area}
use Rattle.image_truth_units.proofs.Texts.{tables, scalar_text}
use Rattle.rv_emit_storage.specs.Storages.{object_at}
use Rattle.currency.specs.Evident.{IsScalarOf}

-- An image has a program's tables and a unit's storages and spans; the machine stands at a stop of the unit over homes, whose memory is that of the program's run.
module _ (p : ProgramTree) (m : Form) (functions : map name_length m.functions ≡ map length_of_name p.functions) (variables : map shape m.variables ≡ shapes_of p) (owners : map owner m.variables ≡ owners_of p) (more : List ℕ) (names : m.names ≡ declared_names p ++ more) (rules : IsImage m)
    (static_law : (n : ℕ) (t : StaticTree) → slice_get p.statics n ≡ Some t → (t.name ≢ []) × HasElements t.of) (automatic_law : (x : ℕ) (a : AutomaticTree) → slice_get p.automatics x ≡ Some a → (a.name ≢ []) × HasElements a.of)
    (literal_law : (n : ℕ) (l : LiteralTree) → slice_get p.literals n ≡ Some l → (1 ≤ length l.bytes) × (length l.bytes ≤ 4294967295))
    (h : HomedForm) (valid : IsValid h.unit) (homed : HaveHomes h) (a : Arrangement) (e : EmittedForm) (storages : map storage m.variables ≡ storages_of h e (length m.variables)) (spans : map span m.functions ≡ map code_span e.functions) (words : m.owners ≡ e.owners) (outermost : slice_index e.owners (stub_words e.map - 3) ≡ 0)
    (unit : HasVariablesIn p h.unit) (has : HasPlacesOf h.unit m) (tells : Tells h a e)
    (c : Configuration) (s : MachineState) (regions : e.map ≡ map_of_unit h.unit) (short : length s.code ≤ most_words s.map) (stands : StandsAt h e a c s) (running : IsRunning (over_homes h) c)
    (memory : source-memory.Memory) (same : SameMemory p memory c.memory) (typed : AreTyped memory) (differ : OwnersDiffer memory) (declared : (n : ℕ) (o : source-memory.Object) → slice_get memory n ≡ Some o → IsDeclared p o.owner o) where
  -- What is recovered of a scalar is the text of what its variable holds, where its nodes come to the word of what the unit shows of the scalar.
  pub recovered_text : (x j change node : ℕ) (v : AutomaticTree) (scalar : Scalar) (g : Graph) (sc : UnitScalar) (frame : unit-run.Frame) (w : unit-value.Value) → slice_get p.automatics x ≡ Some v → v.of ≡ type.Scalar scalar → slice_get g.scalars j ≡ Some sc → sc.variable ≡ automatic_number p x
      → Seen p memory c.memory g (length c.waiting + 1) frame x → slice_get frame.shadows j ≡ Some (Known w) → Means stands.addresses c.memory w (recipe_value m s recipe_levels node)
      → IsShown p m s memory v.of (contents (OfVariable x (length c.waiting + 1)) memory) c.here.place (automatic_number p x) (Recovered change node)
  recovered_text x j change node v scalar g sc frame w declared_is of at number seen shown means =
      let shadow = seen.shadow j sc at number in
      let value : shadow.other ≡ w = known_is shadow.other w (sym shadow.known ∙ shown) in
      let alike = subst (SameValue p memory c.memory shadow.value) value shadow.same in
      let areas = object_area p h valid homed a e m unit.statics (keeps_objects p m functions variables owners more names rules h a e storages unit tells (tables p m functions variables owners more names rules static_law automatic_law literal_law h valid homed a e storages spans words outermost unit has tells c s regions short stands running memory same typed differ declared) literal_law)
      words outermost c s regions short stands running (keeps_places h a e tells m spans has) memory same typed declared in
      let kept = value_means p m (standings (code_of h a) (reg s 2) (c.here ∷ c.waiting)) memory c.memory stands.addresses areas shadow.value w (recipe_value m s recipe_levels node) alike means in
      scalar_text p m functions variables owners more names rules static_law automatic_law literal_law h valid homed a e storages spans words outermost unit has tells c s regions short stands running memory same typed differ declared
      x seen.number v scalar seen.object shadow.value (Recovered change node) declared_is of seen.is seen.owner seen.lives shadow.holds kept
    where
      known_is : (y z : unit-value.Value) → Some (Known y) ≡ Some (Known z) → y ≡ z
      known_is y z e = cc

  -- A variable in memory that lives is no scalar of a function.
  pub no_scalar : (x k depth : ℕ) (v : AutomaticTree) (o : source-memory.Object) → slice_get p.automatics x ≡ Some v → v.in_memory ≡ true → slice_get memory k ≡ Some o → o.owner ≡ OfVariable x depth → o.phase ≡ Live → IsScalarOf h (automatic_number p x) → ⊥
  no_scalar x k depth v o declared_is inside is owner_is live scalar =
      let at_home = by_scalar (slice_get scalar.graph.scalars scalar.index) refl scalar.of in
      let held_there = same k o is live (subst (IsInMemory p) (sym owner_is) (v, declared_is, inside)) in
      let its = object_at_depth h a c running held_there.number (automatic_number p x) depth held_there.object held_there.is held_there.same.lives (held_there.same.owner ∙ ap (owner_of p) owner_is) in
      let there = (keeps_objects p m functions variables owners more names rules h a e storages unit tells (tables p m functions variables owners more names rules static_law automatic_law literal_law h valid homed a e storages spans words outermost unit has tells c s regions short stands running memory same typed differ declared) literal_law).objects its.activation.function its.number its.object its.is in
      let one : there.variable ≡ at_home.0 = same_Some there.variable at_home.0 (sym there.is ∙ ap (slice_get m.variables) its.var ∙ at_home.1) in
      no_frame (object_at (code_of h a its.activation.function).storage its.number) at_home.2 at_home.3 (sym there.there ∙ ap (λ (y : Variable). y.storage) one ∙ at_home.4)
    where
      no_frame : (offset slots : ℕ) (home : declared-home.Home) → kept.Frame offset ≡ storage_of slots home → ⊥
      no_frame offset slots (Register r) same = cc
      no_frame offset slots (Slot k) same = cc

      by_scalar : (found : Option UnitScalar) → slice_get scalar.graph.scalars scalar.index ≡ found → option_map (λ (z : UnitScalar). z.variable) found ≡ Some (automatic_number p x)
          → (y : Variable) × (slice_get m.variables (automatic_number p x) ≡ Some y) × (slots : ℕ) × (home : declared-home.Home) × (y.storage ≡ storage_of slots home)
      by_scalar None is of = absurd (none-some (automatic_number p x) of)
      by_scalar (Some sc) is of =
          let at = scalar_kept p m functions variables owners more names rules h e storages unit tells.many scalar.function scalar.index scalar.graph sc scalar.is is in
          (at.variable, ap (slice_get m.variables) (sym (same_Some sc.variable (automatic_number p x) of)) ∙ at.is, at.code.slots, at.home, at.storage_is)
