-- Copy propagation keeps the marks of a unit and its program.
use Rattle.std.proofs.Common.{◌≡◌, ℕ, List, ◌++◌}
use Rattle.debug_records.specs.declared.change.PassName.{PassName}
use Rattle.debug_records.specs.declared.change.Kind as declared-kind
use Rattle.graph_core.specs.Graphs.{Logged, UnitForm}
use Rattle.graph_core.specs.Runs.{unit_run}
use Rattle.graph_core.specs.Validity.{IsValid}
use Rattle.graph_core.specs.WellMarked.{AreWellMarked}
use Rattle.pass_law.specs.Kept.{AddsChanges, EachFunction, ShareTheSame}
use Rattle.pass_law.specs.Keeps.{Keeps, SameProgram}
use Rattle.pass_law.proofs.Keeping.{reached_itself}
use Rattle.copy_pass_rule.specs.Copying.{IsPropagated}
use Rattle.copy_pass_rule.specs.Alike.{AreAlike}
use Rattle.copy_pass_rule.proofs.Lists.{each_related}
use Rattle.copy_pass_rule.proofs.Alike.{propagated_alike}
use Rattle.copy_pass_laws.specs.Alike.{AreAlikeUnits}
use Rattle.copy_pass_laws.proofs.Marked.{units_marked}
use Rattle.copy_pass_laws.proofs.Program.{same_program}

module _ (u v : UnitForm) where
  -- Units that share the same and between whose functions copies are propagated are alike, where the log only grew.
  pub units_copied : ShareTheSame u v → (added : List Logged) → v.log ≡ u.log ++ added → EachFunction IsPropagated u.graphs v.graphs → AreAlikeUnits u v
  units_copied shared added log made = record { shared = shared; added = added; log = log; functions = each_related IsPropagated AreAlike propagated_alike u.graphs v.graphs made }

  module _ (pass : PassName) (kind : declared-kind.Kind) where
    -- COPY PROPAGATION KEEPS MARKS. The valid unit that it makes of a well marked one is well marked.
    pub propagated_marked : AreWellMarked u → IsValid v → ShareTheSame u v → AddsChanges pass kind u v → EachFunction IsPropagated u.graphs v.graphs → AreWellMarked v
    propagated_marked marked valid shared log made = units_marked u v (units_copied shared log.added log.log made) valid marked

    -- COPY PROPAGATION KEEPS THE PROGRAM. The unit that it makes is of the same program.
    pub propagated_program : ShareTheSame u v → AddsChanges pass kind u v → EachFunction IsPropagated u.graphs v.graphs → SameProgram u v
    propagated_program shared log made = same_program u v (units_copied shared log.added log.log made)

    -- It keeps what a well marked unit does, where the unit that it makes shows on each input and in each number of steps the same.
    pub propagated_keeps : AreWellMarked u → IsValid v → ShareTheSame u v → AddsChanges pass kind u v → EachFunction IsPropagated u.graphs v.graphs → ((input : List ℕ) (n : ℕ) → unit_run v input n ≡ unit_run u input n) → Keeps u v
    propagated_keeps marked valid shared log made run = record {
      marked = marked;
      still_marked = propagated_marked marked valid shared log made;
      program = propagated_program shared log made;
      follows = λ input n. reached_itself (unit_run u input n) (unit_run v input) n (run input n);
    }
