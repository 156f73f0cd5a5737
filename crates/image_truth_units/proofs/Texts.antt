-- What an image that is made of a program's unit shows at a stop is the text of what the program's variables hold.
use Rattle.std.proofs.Common.{◌≡◌, ◌≢◌, ℕ, ◌+◌, ◌-◌, ◌≤◌, true, Some, List, [], ◌∷◌, ◌++◌, length, map, slice_get, sym, ap, ◌∙◌, subst}
use Rattle.std.specs.Prelude.{slice_index}
use Rattle.word_base.specs.Owners.{Static, Variable as OfVariable}
use Rattle.c_tree.specs.declared.object_type.ObjectType.TheVariants as type
use Rattle.c_tree.specs.declared.object_type.Scalar.{Scalar}
use Rattle.c_tree.specs.Programs.{ProgramTree, StaticTree, AutomaticTree, LiteralTree}
use Rattle.c_meaning_values.specs.declared.value.Value as source-value
use Rattle.c_meaning_values.specs.declared.value.Phase.TheVariants.{Live}
use Rattle.c_meaning_values.specs.Memory as source-memory
use Rattle.c_meaning_values.specs.Memory.{contents}
use Rattle.memory_map.specs.Maps.{most_words, stub_words}
use Rattle.rv_emit_storage.specs.UnitMaps.{map_of_unit}
use Rattle.image_form.specs.Form.{Form}
use Rattle.image_form.specs.Rules.{IsImage}
use Rattle.image_form.specs.declared.verdicts.Verdict.{Verdict}
use Rattle.image_form.specs.declared.verdicts.Verdict.TheVariants.{Home}
use Rattle.image_build_tables.specs.Spans.{span, code_span}
use Rattle.image_build_tables.specs.Storages.{storages_of}
use Rattle.image_build_tables.specs.Variables.{shape, shapes_of, owner, owners_of, declared_names, name_length, length_of_name, storage}
use Rattle.rv_machine.specs.State.{MachineState, reg}
use Rattle.stop_engine_view.specs.Values.{held_text}
use Rattle.graph_core.specs.Runs.{Configuration}
use Rattle.graph_core.specs.Validity.{IsValid}
use Rattle.graph_build_runs.specs.Typed.{AreTyped, OwnersDiffer}
use Rattle.graph_build_runs.specs.Correspondence.{SameMemory}
use Rattle.graph_homes.specs.Homed.{HomedForm, HaveHomes, over_homes}
use Rattle.rv_emit_tables.specs.Emitted.{EmittedForm}
use Rattle.rv_emit_runs.specs.Laid.{Arrangement, code_of}
use Rattle.rv_emit_runs.specs.Standing.{StandsAt}
use Rattle.rv_emit_runs.specs.Told.{Tells}
use Rattle.graph_homes.specs.Owned.{IsRunning}
use Rattle.image_truth_units.specs.Texts.{IsObjectText}
use Rattle.image_truth_units.specs.Units.{HasVariablesIn}
use Rattle.image_truth_units.specs.Variables.{automatic_number, HasElements, HasVariablesOf}
use Rattle.image_truth_units.specs.Standing.{Standing, IsDeclared, HoldsMemory}
use Rattle.image_truth_units.specs.Rows.{IsShown, IsKeptBy}
use Rattle.image_truth_units.proofs.Rows.{static_is_shown, object_is_shown, scalar_is_shown}
use Rattle.image_truth_units.proofs.Tables.{has_variables}
use Rattle.image_truth_units.specs.Keeping.{HasPlacesOf, standings}
use Rattle.image_truth_units.proofs.Frames.{standing_of, many_standings}
use Rattle.image_truth_units.proofs.ImageHoldingKept.{keeps_objects, keeps_places}
use Rattle.image_truth_units.proofs.Whole.{holds_memory}

-- An image has a program's tables and a unit's storages and spans; the machine stands at a stop of the unit over homes, whose memory is that of the program's run.
module _ (p : ProgramTree) (m : Form) (functions : map name_length m.functions ≡ map length_of_name p.functions) (variables : map shape m.variables ≡ shapes_of p) (owners : map owner m.variables ≡ owners_of p) (more : List ℕ) (names : m.names ≡ declared_names p ++ more) (rules : IsImage m)
    (static_law : (n : ℕ) (t : StaticTree) → slice_get p.statics n ≡ Some t → (t.name ≢ []) × HasElements t.of) (automatic_law : (x : ℕ) (a : AutomaticTree) → slice_get p.automatics x ≡ Some a → (a.name ≢ []) × HasElements a.of)
    (literal_law : (n : ℕ) (l : LiteralTree) → slice_get p.literals n ≡ Some l → (1 ≤ length l.bytes) × (length l.bytes ≤ 4294967295))
    (h : HomedForm) (valid : IsValid h.unit) (homed : HaveHomes h) (a : Arrangement) (e : EmittedForm) (storages : map storage m.variables ≡ storages_of h e (length m.variables)) (spans : map span m.functions ≡ map code_span e.functions) (words : m.owners ≡ e.owners) (outermost : slice_index e.owners (stub_words e.map - 3) ≡ 0)
    (unit : HasVariablesIn p h.unit) (has : HasPlacesOf h.unit m) (tells : Tells h a e)
    (c : Configuration) (s : MachineState) (regions : e.map ≡ map_of_unit h.unit) (short : length s.code ≤ most_words s.map) (stands : StandsAt h e a c s) (running : IsRunning (over_homes h) c)
    (memory : source-memory.Memory) (same : SameMemory p memory c.memory) (typed : AreTyped memory) (differ : OwnersDiffer memory) (declared : (n : ℕ) (o : source-memory.Object) → slice_get memory n ≡ Some o → IsDeclared p o.owner o) where
  -- the variables of the image are the program's
  pub tables : HasVariablesOf p m
  tables = has_variables p m functions variables owners more names rules static_law automatic_law

  -- the activations that wait, as they stand in the stack
  abbrev pub waiting : List Standing
  waiting = standings (code_of h a) (reg s 2 + (code_of h a c.here.function).size) c.waiting

  many : length waiting ≡ length c.waiting
  many = many_standings (code_of h a) (reg s 2 + (code_of h a c.here.function).size) c.waiting

  -- The machine holds the memory of the program's run.
  pub holds : HoldsMemory p m memory (standing_of (reg s 2) c.here) waiting s
  holds = holds_memory p h valid homed a e m unit.statics (keeps_objects p m functions variables owners more names rules h a e storages unit tells tables literal_law) words outermost c s regions short stands running (keeps_places h a e tells m spans has) memory same typed declared

  -- The text that is shown of a static variable is that of what it holds.
  pub static_text : (n k : ℕ) (t : StaticTree) (o : source-memory.Object) → slice_get p.statics n ≡ Some t → slice_get memory k ≡ Some o → o.owner ≡ Static n → o.phase ≡ Live → IsObjectText p memory t.of (contents (Static n) memory) (held_text m s c.here.place n)
  static_text n k t o declared_is is owner_is live = static_is_shown p m tables memory (standing_of (reg s 2) c.here) waiting s holds differ n k t o declared_is is owner_is live

  -- So it is of an automatic variable in memory, whose verdict is that it is there,
  pub object_text : (x k : ℕ) (v : AutomaticTree) (o : source-memory.Object) (verdict : Verdict) → slice_get p.automatics x ≡ Some v → v.in_memory ≡ true → slice_get memory k ≡ Some o → o.owner ≡ OfVariable x (length c.waiting + 1) → o.phase ≡ Live → verdict ≡ Home
      → IsShown p m s memory v.of (contents (OfVariable x (length c.waiting + 1)) memory) c.here.place (automatic_number p x) verdict
  object_text x k v o verdict declared_is inside is owner_is live there =
      subst (λ d. IsShown p m s memory v.of (contents (OfVariable x (d + 1)) memory) c.here.place (automatic_number p x) verdict) many
      (object_is_shown p m tables memory (standing_of (reg s 2) c.here) waiting s holds differ x k v o verdict declared_is inside is (owner_is ∙ ap (λ d. OfVariable x (d + 1)) (sym many)) live there)

  -- and of a scalar that is kept in a home, where what its verdict says is so.
  pub scalar_text : (x k : ℕ) (v : AutomaticTree) (scalar : Scalar) (o : source-memory.Object) (value : source-value.Value) (verdict : Verdict) → slice_get p.automatics x ≡ Some v → v.of ≡ type.Scalar scalar → slice_get memory k ≡ Some o → o.owner ≡ OfVariable x (length c.waiting + 1) → o.phase ≡ Live
      → o.values ≡ value ∷ [] → IsKeptBy p m (standings (code_of h a) (reg s 2) (c.here ∷ c.waiting)) memory s (automatic_number p x) value verdict → IsShown p m s memory v.of (contents (OfVariable x (length c.waiting + 1)) memory) c.here.place (automatic_number p x) verdict
  scalar_text x k v scalar o value verdict declared_is of is owner_is live holds_value kept =
      subst (λ d. IsShown p m s memory v.of (contents (OfVariable x (d + 1)) memory) c.here.place (automatic_number p x) verdict) many
      (scalar_is_shown p m tables memory (standing_of (reg s 2) c.here) waiting s holds differ x k v scalar o value verdict declared_is of is (owner_is ∙ ap (λ d. OfVariable x (d + 1)) (sym many)) live holds_value kept)
