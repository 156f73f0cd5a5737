-- What a stop shows of a program's variables is the text of what they hold.
use Rattle.std.proofs.Common.{◌≡◌, ℕ, ◌-◌, ◌≤◌, Some, ◌∷◌, length, slice_get, refl, sym, ◌∙◌, subst}
use Rattle.std.specs.Prelude.{slice_index}
use Rattle.c_tree.specs.Programs.{ProgramTree}
use Rattle.c_meaning_values.specs.declared.value.Value as source-value
use Rattle.c_meaning_values.specs.Memory as source-memory
use Rattle.memory_map.specs.Maps.{most_words, stub_words}
use Rattle.rv_emit_storage.specs.UnitMaps.{map_of_unit}
use Rattle.image_form.specs.Form.{Form}
use Rattle.image_form.specs.declared.verdicts.Verdict.TheVariants.{Home as AtHome}
use Rattle.image_form.specs.declared.variables.Variable.{Variable}
use Rattle.image_build_tables.specs.Storages.{storage_of}
use Rattle.rv_machine.specs.State.{MachineState, reg}
use Rattle.stop_engine_view.specs.Words.{home_word}
use Rattle.graph_homes.specs.declared.home.Home.{Home}
use Rattle.graph_homes.specs.declared.home.Home.TheVariants.{Register, Slot}
use Rattle.graph_core.specs.Runs.{Configuration}
use Rattle.graph_core.specs.Validity.{IsValid}
use Rattle.graph_build_runs.specs.Typed.{AreTyped}
use Rattle.graph_build_runs.specs.Correspondence.{SameMemory, SameValue}
use Rattle.graph_homes.specs.Homed.{HomedForm, HaveHomes, IsHomeAmong, home_number, over_homes}
use Rattle.rv_emit_tables.specs.Emitted.{EmittedForm}
use Rattle.rv_emit_runs.specs.Laid.{Arrangement, code_of}
use Rattle.rv_emit_runs.specs.Standing.{IsFrame, StandsAt}
use Rattle.graph_homes.specs.Owned.{IsRunning}
use Rattle.image_truth_units.specs.Variables.{static_count}
use Rattle.image_truth_units.specs.Standing.{IsWordOf, IsDeclared, IsHome}
use Rattle.image_truth_units.specs.Rows.{IsKeptBy}
use Rattle.image_truth_units.specs.Keeping.{KeepsObjectsOf, KeepsPlacesOf, standings}
use Rattle.image_truth_units.proofs.Frames.{frame_there}
use Rattle.image_truth_units.proofs.Homes.{home_word_is}
use Rattle.image_truth_units.proofs.ImageHoldingValues.{value_means}
use Rattle.image_truth_units.proofs.Whole.{object_area}

home_kind : (slots : ℕ) (home : Home) → IsHome (storage_of slots home)
home_kind slots (Register r) = tt
home_kind slots (Slot k) = tt

module _ (p : ProgramTree) (h : HomedForm) (valid : IsValid h.unit) (homed : HaveHomes h) (a : Arrangement) (e : EmittedForm) (m : Form) (count : length h.unit.statics ≡ static_count p) (keeps : KeepsObjectsOf h a m) (owners : m.owners ≡ e.owners) (outermost : slice_index e.owners (stub_words e.map - 3) ≡ 0)
    (c : Configuration) (s : MachineState) (regions : e.map ≡ map_of_unit h.unit) (short : length s.code ≤ most_words s.map) (stands : StandsAt h e a c s) (running : IsRunning (over_homes h) c) (places : KeepsPlacesOf h a m)
    (memory : source-memory.Memory) (same : SameMemory p memory c.memory) (typed : AreTyped memory) (declared : (n : ℕ) (o : source-memory.Object) → slice_get memory n ≡ Some o → IsDeclared p o.owner o) where
  -- the word of a home whose value is a variable's is that of the variable's value
  word_of_home : (home : Home) (value : source-value.Value) (slots : ℕ) → slots ≡ (code_of h a c.here.function).storage.slots → IsHomeAmong (code_of h a c.here.function).slots home → SameValue p memory c.memory value (c.here.names (home_number home))
      → IsWordOf p m (standings (code_of h a) (reg s 2) (c.here ∷ c.waiting)) memory value (home_word s (storage_of slots home))
  word_of_home home value slots slots_are among alike =
      let frame = subst (λ r. IsFrame r (code_of h a c.here.function) stands.addresses (reg s 2) c.here) (sym stands.map) (frame_there h a e stands.addresses _ (reg s 2) c.here c.waiting 0 c.here stands.stack refl) in
      subst (IsWordOf p m (standings (code_of h a) (reg s 2) (c.here ∷ c.waiting)) memory value) (sym (home_word_is h valid homed a stands.addresses s c.here frame slots slots_are home among))
      (value_means p m (standings (code_of h a) (reg s 2) (c.here ∷ c.waiting)) memory c.memory stands.addresses
      (object_area p h valid homed a e m count keeps owners outermost c s regions short stands running places memory same typed declared) value (c.here.names (home_number home)) _ alike (stands.homes home among))

  -- What a verdict says is so where it is that a variable is in its home, and the home's value is the variable's.
  pub kept_at_home : (number slots : ℕ) (v : Variable) (home : Home) (value : source-value.Value) → slice_get m.variables number ≡ Some v → v.storage ≡ storage_of slots home → slots ≡ (code_of h a c.here.function).storage.slots → IsHomeAmong (code_of h a c.here.function).slots home
      → SameValue p memory c.memory value (c.here.names (home_number home)) → IsKeptBy p m (standings (code_of h a) (reg s 2) (c.here ∷ c.waiting)) memory s number value AtHome
  kept_at_home number slots v home value is stored slots_are among alike w there =
      let same_variable : v.storage ≡ w.storage = one v w (sym is ∙ there) in
      let at : storage_of slots home ≡ w.storage = sym stored ∙ same_variable in
      (subst IsHome at (home_kind slots home), subst (λ z. IsWordOf p m (standings (code_of h a) (reg s 2) (c.here ∷ c.waiting)) memory value (home_word s z)) at (word_of_home home value slots slots_are among alike))
    where
      one : (v w : Variable) → Some v ≡ Some w → v.storage ≡ w.storage
      one v w e = cc
