use Rattle.std.proofs.Common.{◌≡◌, map, take}
use Rattle.graph_core.specs.Graphs.{logged}
use Rattle.image_build_tables.specs.Tables.{change_record}
use Rattle.image_build_tables.proofs.pairs.changes_of.Given as goal

abbrev pub invariant-loop-change : goal.invariant-loop-change
invariant-loop-change l = l.changes.items ≡ map change_record (map logged (take l.change-index l.log))
