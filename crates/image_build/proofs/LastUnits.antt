-- What the last unit of a trail is that begins with one that is built of a program.
use Rattle.std.proofs.Common.{◌≡◌, ℕ, ◌≤◌, ◌*◌, List, [], ◌∷◌, Option, Some, None, length, map, slice_get, subst, sym, ap, ◌∙◌}
use Rattle.std.specs.Prelude.{◌↔◌, IfOk, IsSomeAnd, Result, Ok, Err}
use Rattle.std.specs.List.{Contains}
use Rattle.places.specs.declared.flow.Assignment.{Assignment}
use Rattle.places.specs.declared.flow.FlowStep.{FlowStep}
use Rattle.c_tree.specs.Programs.{ProgramTree}
use Rattle.debug_records.specs.declared.change.PassName.{PassName}
use Rattle.graph_build_laws.specs.Built.{IsBuilt}
use Rattle.graph_core.specs.Graphs.{UnitForm, unit_view}
use Rattle.graph_core.specs.WellMarked.{AreWellMarked}
use Rattle.pass_law.specs.Keeps.{Keeps}
use Rattle.pass_law.specs.Kept.{KeepsShape}
use Rattle.pass_law.specs.Leading.{IsLawfulStep, Lead}
use Rattle.pass_law.specs.Logs.{most_changes}
use Rattle.pass_law.specs.Trails.{OfLast}
use Rattle.pass_law.specs.declared.list.Trail as declared-trail
use Rattle.pass_law.proofs.Keeping.{keeps_itself, keeps_through}
use Rattle.cdbg_passes.proofs.OnTrail.{trails}
use Rattle.image_build.specs.Behind.{ComesOfForms}
use Rattle.image_build.specs.Tables.{HasShapeOf}
use Rattle.image_build.proofs.Behind.{few_in}
use Rattle.image_build.proofs.Units.{shaped}

-- what is said of something that is there may say more
of_more : {A : Type 0} (P Q : A → Type 0) → ((x : A) → P x → Q x) → (o : Option A) → IsSomeAnd o P → IsSomeAnd o Q
of_more P Q more None holds = elim holds [ ]
of_more P Q more (Some x) holds = more x holds

module _ {E : Type 0} (made : Result declared-trail.Trail E) where
  -- so it is with the last unit of a trail
  last_more : (P Q : UnitForm → Type 0) → ((u : UnitForm) → P u → Q u) → (names : ℕ) → (o : Result declared-trail.Trail E) → IfOk o (λ t. OfLast (map unit_view t.units.items) names P) → IfOk o (λ t. OfLast (map unit_view t.units.items) names Q)
  last_more P Q more names (Ok t) holds = of_more P Q more (slice_get (map unit_view t.units.items) names) holds
  last_more P Q more names (Err e) holds = tt

  first_more : (P : UnitForm → Type 0) (u : UnitForm) → P u → (o : Result declared-trail.Trail E) → IfOk o (λ t. slice_get (map unit_view t.units.items) 0 ≡ Some u) → IfOk o (λ t. IsSomeAnd (slice_get (map unit_view t.units.items) 0) P)
  first_more P u holds (Ok t) is = subst (λ o. IsSomeAnd o P) (sym is) holds
  first_more P u holds (Err e) is = tt

  module _ (p : ProgramTree) (u : UnitForm) (built : IsBuilt p u) (first : IfOk made (λ t. slice_get (map unit_view t.units.items) 0 ≡ Some u)) where
    -- the first is built of the program
    pub first_by : IfOk made (λ t. IsSomeAnd (slice_get (map unit_view t.units.items) 0) (IsBuilt p))
    first_by = first_more (IsBuilt p) u built made first

    -- behind no pass it is the last
    pub built_last : (names : List PassName) → names ≡ [] → IfOk made (λ t. OfLast (map unit_view t.units.items) (length names) (λ v. IsBuilt p v))
    built_last names none = subst (λ n. IfOk made (λ t. OfLast (map unit_view t.units.items) n (λ v. IsBuilt p v))) (sym (ap length none)) first_by

    -- the last has the program's shape
    pub shape_last : (names : ℕ) → IfOk made (λ t. OfLast (map unit_view t.units.items) names (λ v. KeepsShape u v)) → IfOk made (λ t. OfLast (map unit_view t.units.items) names (λ v. HasShapeOf p v))
    shape_last names kept = last_more (λ v. KeepsShape u v) (λ v. HasShapeOf p v) (λ v keeps. shaped p u v built.forms built.steps built.assignments keeps) names made kept

    -- the last has few changes
    pub few_last : (names : ℕ) → names ≤ 32 → IfOk made (λ t. OfLast (map unit_view t.units.items) names (λ v. length v.log ≤ most_changes u.room * names)) → IfOk made (λ t. OfLast (map unit_view t.units.items) names (λ v. length v.log ≤ 32000000))
    few_last names few most = last_more (λ v. length v.log ≤ most_changes u.room * names) (λ v. length v.log ≤ 32000000) (λ v some. few_in u.room (length v.log) names few some) names made most

    module _ {P : Type 0} (named : P → PassName) (steps : P → UnitForm → UnitForm → Type 0) (passes : List P) where
      led_keeps : (names : List (List ℕ)) (v w : UnitForm) → AreWellMarked v → Lead named (λ pass. IsLawfulStep (named pass) (steps pass)) passes names v w → Keeps v w
      led_keeps [] v w marked same = subst (Keeps v) (sym same) (keeps_itself v marked)
      led_keeps (name ∷ names) v w marked (x, step, led) = keeps_through v x w step.step.keeps (led_keeps names x w step.step.keeps.still_marked led)

      -- the last comes of the program
      pub comes_last : (names : List (List ℕ)) (n : ℕ) → AreWellMarked u → IfOk made (λ t. OfLast (map unit_view t.units.items) n (λ v. Lead named (λ pass. IsLawfulStep (named pass) (steps pass)) passes names u v))
          → IfOk made (λ t. OfLast (map unit_view t.units.items) n (λ v. ComesOfForms named steps passes names p v))
      comes_last names n marked led =
          last_more (λ v. Lead named (λ pass. IsLawfulStep (named pass) (steps pass)) passes names u v) (λ v. ComesOfForms named steps passes names p v)
          (λ v way. record { first = u; built = built; trail = trails named steps passes names u v way; keeps = led_keeps names u v marked way }) n made led
