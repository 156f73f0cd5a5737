-- An image can tell of each change that lawful passes log.
use Rattle.std.proofs.Common.{◌≡◌, ◌≢◌, inl, inr, ℕ, suc, ◌<◌, ◌≤◌, Some, List, [], ◌∷◌, length, slice_get, refl, sym, subst, arith}
use Rattle.std.specs.List.{AllByRecursion}
use Rattle.std.proofs.lemmas.Option.{slice_get_within}
use Rattle.debug_records.specs.Change.{IsPassName, letters}
use Rattle.debug_records.specs.declared.change.Kind.TheVariants.{Sunk}
use Rattle.debug_records.specs.declared.change.PassName.{PassName}
use Rattle.c_tree.specs.Programs.{ProgramTree}
use Rattle.c_places.specs.Places.{places_of_program}
use Rattle.c_type_laws.specs.Laws.{IsWellFormed}
use Rattle.graph_core.specs.Graphs.{Graph, Logged, UnitForm}
use Rattle.graph_core.specs.Paths.{Among}
use Rattle.graph_core.specs.Validity.{IsValid, markers_of, markers_of_blocks}
use Rattle.graph_core.proofs.Among.{among_either}
use Rattle.graph_homes.specs.Homed.{HomedForm}
use Rattle.home_assign.specs.Changes.{HaveChanges}
use Rattle.pass_law.specs.Leading.{IsFirst, Lead, behind, here}
use Rattle.pass_law.specs.Logs.{IsScalarIn, LogsWell}
use Rattle.cdbg_passes.specs.Trail.{IsOnTrail}
use Rattle.image_truth_units.specs.Changes.{CanAllBeTold, CanBeTold}
use Rattle.image_truth_units.specs.ImageRulesUnits.{HasOwnPlaces, IsPlaceIn}
use Rattle.image_truth_units.specs.Tables.{variables_in}
use Rattle.image_truth_units.specs.Units.{HasVariablesIn, IsVariableOf}
use Rattle.image_truth_units.proofs.Built.{own_places, program_variables}
use Rattle.image_build.specs.Behind.{ComesOfForms}
use Rattle.image_build.specs.Kept.{IsKeptOf}
use Rattle.image_build.proofs.Carried.{has_own_places, has_variables}
use Rattle.image_build.proofs.FewShared.{few_shared}
use Rattle.image_build.proofs.KeptUnits.{kept_functions, kept_variables}
use Rattle.image_build.proofs.ShallowRecipes.{scalar_there}
use Rattle.image_build.proofs.SharedTold.{places_carried, scalar_places, shared_told}
use Rattle.base_laws.proofs.Lists.{both_all}

-- ---- Places and variables of units

-- the graph of a marker among those of all
graph_marked : (graphs : List Graph) (place : ℕ) → Among place (markers_of graphs) → (f : ℕ) × (g : Graph) × (slice_get graphs f ≡ Some g) × Among place (markers_of_blocks g.blocks)
graph_marked [] place among = elim among [ ]
graph_marked (g ∷ graphs) place among = elim (among_either (markers_of_blocks g.blocks) (markers_of graphs) place among) [
  | inl first ↦ (0, g, refl, first)
  | inr later ↦ (let r = graph_marked graphs place later in (suc r.0, r.1, r.2, r.3))
]

module _ (p : ProgramTree) where
  -- A place is one of the program's.
  abbrev pub IsPlaceOfProgram : ℕ → Type 0
  IsPlaceOfProgram place = (1 ≤ place) × (place ≤ length (places_of_program p))

  -- a place of one of its functions is one
  pub place_within : (f place : ℕ) → IsPlaceIn p f place → IsPlaceOfProgram place
  place_within f place is =
      let low = slice_get_within (places_of_program p) is.index is.at is.is in
      let number = is.number_is in
      (omega (arith, number), omega (arith, number, low))

  -- a variable of one of its functions is one of its variables
  pub variable_within : (f variable : ℕ) → IsVariableOf p f variable → variable < variables_in p
  variable_within f variable is =
      let low = slice_get_within p.automatics is.variable is.tree is.is in
      let number = is.number_is in
      omega (arith, number, low)

  -- given: a unit whose markers are the program's places, with its variables
  module _ (u : UnitForm) (places : HasOwnPlaces p u) (variables : HasVariablesIn p u) where
    marker_within : (place : ℕ) → Among place (markers_of u.graphs) → IsPlaceOfProgram place
    marker_within place among = let r = graph_marked u.graphs place among in place_within r.0 place (places.own r.0 place r.1 r.2 r.3)

    scalar_within : (variable : ℕ) → IsScalarIn u variable → variable < variables_in p
    scalar_within variable is =
        let s = scalar_there (slice_get is.graph.scalars is.x) variable is.of in
        variable_within is.function variable (subst (IsVariableOf p is.function) s.2 (variables.scalars is.function is.x is.graph s.0 is.is s.1))

    -- What a pass logs well an image can tell of.
    logged_told : (pass : PassName) → IsPassName (letters pass) → (added : List Logged) → AllByRecursion (λ (c : Logged). c.pass ≡ pass) added → AllByRecursion (λ (c : Logged). Among c.place (markers_of u.graphs)) added → AllByRecursion (λ (c : Logged). IsScalarIn u c.variable) added
        → AllByRecursion (λ (c : Logged). c.kind ≢ Sunk) added → AllByRecursion (CanBeTold p) added
    logged_told pass called [] by at of kinds = tt
    logged_told pass called (c ∷ added) by at of kinds =
        let place = marker_within c.place at.0 in (
          record {
            called = subst (λ (n : PassName). IsPassName (letters n)) (sym by.0) called;
            place_some = place.0;
            place_most = place.1;
            variable = scalar_within c.variable of.0;
            unsunk = kinds.0;
          },
          logged_told pass called added by.1 at.1 of.1 kinds.1,
        )

-- ---- Trails

-- the first pass of a name has the name
first_named : {P : Type 0} (named : P → PassName) (name : List ℕ) (pass : P) (passes : List P) → IsFirst named name pass passes → letters (named pass) ≡ name
first_named named name pass _ (here is) = is
first_named named name pass _ (behind {more = more} other is) = first_named named name pass more is

module _ {P : Type 0} (named : P → PassName) (steps : P → UnitForm → UnitForm → Type 0) (passes : List P) (p : ProgramTree) where
  told_along : (names : List (List ℕ)) (u w : UnitForm) → AllByRecursion IsPassName names → Lead named (λ pass. IsOnTrail (named pass) (steps pass)) passes names u w → HasOwnPlaces p u → HasVariablesIn p u → AllByRecursion (CanBeTold p) u.log → AllByRecursion (CanBeTold p) w.log
  told_along [] u w called led places variables told = subst (λ (v : UnitForm). AllByRecursion (CanBeTold p) v.log) (sym led) told
  told_along (name ∷ names) u w called (v, step, led) places variables told =
      let one : IsOnTrail (named step.pass) (steps step.pass) u v = step.step in
      let logs : LogsWell (named step.pass) u v = one.logs in
      let is : IsPassName (letters (named step.pass)) = subst IsPassName (sym (first_named named name step.pass passes step.first)) called.0 in
      let added = logged_told p u places variables (named step.pass) is logs.added logs.by logs.at logs.of logs.kinds in
      told_along names v w called.1 led
      (has_own_places u v one.keeps.program.statics one.keeps.program.functions p places)
      (has_variables u v one.keeps.program.statics one.keeps.program.functions p variables)
      (subst (AllByRecursion (CanBeTold p)) (sym logs.log) (both_all (CanBeTold p) u.log logs.added told added))

  -- AN IMAGE CAN TELL OF EACH CHANGE of a unit that comes of a program behind passes, where their names are names of passes.
  pub trail_told : (names : List (List ℕ)) (u : UnitForm) → IsWellFormed p → AllByRecursion IsPassName names → ComesOfForms named steps passes names p u → AllByRecursion (CanBeTold p) u.log
  trail_told names u formed called comes =
      told_along names comes.first u called comes.trail (own_places p formed comes.first comes.built.forms) (program_variables p formed comes.first comes.built.forms)
      (subst (AllByRecursion (CanBeTold p)) (sym comes.built.forms.log) tt)

-- ---- With homes

-- AN IMAGE CAN TELL OF ALL CHANGES of a unit with homes, where it can of those of the unit that has no homes yet.
pub all_told : (p : ProgramTree) → IsWellFormed p → (u : UnitForm) (h : HomedForm) → IsKeptOf p u → IsValid u → HaveChanges u h → AllByRecursion (CanBeTold p) u.log → length u.log ≤ 32000000 → CanAllBeTold p h.unit.log
all_told p formed u h kept valid changes told few =
    let more = few_shared u h valid changes in
    let placed = places_carried p kept.first u (kept_functions p u kept) (scalar_places p formed kept.first kept.built.forms) in
    record { each = shared_told p u h (kept_variables p u kept formed) placed changes told; few = omega (arith, few, more) }
