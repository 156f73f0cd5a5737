-- A unit behind copy propagation is valid and well marked, and keeps what the unit before does.
use Rattle.std.proofs.Common.{◌≡◌, List, ◌++◌}
use Rattle.graph_core.specs.Graphs.{Logged, UnitForm}
use Rattle.graph_core.specs.Validity.{IsValid}
use Rattle.graph_core.specs.WellMarked.{AreWellMarked}
use Rattle.pass_law.specs.Kept.{EachFunction, ShareTheSame}
use Rattle.pass_law.specs.Keeps.{Keeps}
use Rattle.copy_pass_rule.specs.Copying.{IsPropagated}
use Rattle.copy_pass_laws.proofs.Whole.{propagated_follows}
use Rattle.copy_pass_rule.proofs.Valid.{propagated_valid}
use Rattle.copy_pass_laws.proofs.Propagated.{units_copied}
use Rattle.copy_pass_laws.proofs.Marked.{units_marked}
use Rattle.copy_pass_laws.proofs.Program.{same_program}

pub copies_valid : (u v : UnitForm) (added : List Logged) → ShareTheSame u v → v.log ≡ u.log ++ added → EachFunction IsPropagated u.graphs v.graphs → IsValid u → IsValid v
copies_valid u v added shared log made valid = propagated_valid u v added valid shared made log

-- COPY PROPAGATION KEEPS WHAT A UNIT DOES.
pub copies_keep : (u v : UnitForm) (added : List Logged) → ShareTheSame u v → v.log ≡ u.log ++ added → EachFunction IsPropagated u.graphs v.graphs → AreWellMarked u → Keeps u v
copies_keep u v added shared log made marked =
    let alike = units_copied u v shared added log made in
    record {
      marked = marked;
      still_marked = units_marked u v alike (copies_valid u v added shared log made marked.valid) marked;
      program = same_program u v alike;
      follows = propagated_follows u v shared made;
    }
