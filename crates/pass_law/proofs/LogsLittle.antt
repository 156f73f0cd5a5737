-- What leaves the log as it was logs what a pass may, and a pass may log one change.
use Rattle.std.proofs.Common.{◌≡◌, ◌≤◌, [], sym, ◌∙◌, append-nil, arith, lit≤}
use Rattle.memory_map.specs.declared.map.Room.{Room}
use Rattle.memory_map.specs.declared.map.Room.TheVariants.{Small, Large}
use Rattle.debug_records.specs.declared.change.PassName.{PassName}
use Rattle.graph_core.specs.Graphs.{UnitForm}
use Rattle.pass_law.specs.Logs.{most_changes, LogsWell}

pub logs_nothing : (pass : PassName) (u v : UnitForm) → v.log ≡ u.log → LogsWell pass u v
logs_nothing pass u v same =
    let few : 0 ≤ most_changes u.room = omega arith in
    record { added = []; log = same ∙ sym (append-nil u.log); few = few; by = tt; kinds = tt; at = tt; of = tt }

pub one_few : (r : Room) → 1 ≤ most_changes r
one_few Small = lit≤ tt
one_few Large = lit≤ tt
