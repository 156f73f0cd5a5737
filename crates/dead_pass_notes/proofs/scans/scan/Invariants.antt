use Rattle.std.proofs.Common.{◌≡◌, length, map}
use Rattle.graph_core.specs.Graphs.{instruction_view}
use Rattle.dead_pass_rule.specs.Asking.{is_going}
use Rattle.dead_pass_rule.specs.Walks.{turn_of}
use Rattle.dead_pass_notes.specs.Scans.{scan_of}
use Rattle.dead_pass_notes.proofs.scans.scan.Given as goal

abbrev pub invariant-loop-ahead : goal.invariant-loop-ahead
invariant-loop-ahead l =
    scan_of (is_going (turn_of l.turns)) l.sought.to l.sought.name l.block l.is_written (map instruction_view l.ahead) ≡ scan_of (is_going (turn_of l.turns)) l.sought.to l.sought.name l.block l.was_written (map instruction_view l.instructions)

abbrev pub decreases-loop-ahead : goal.decreases-loop-ahead
decreases-loop-ahead l = length l.ahead
