use Rattle.std.proofs.Common.{◌≡◌, ◌++◌, length, map}
use Rattle.c_tree.specs.Programs.{program_view}
use Rattle.graph_core.specs.Graphs.{logged}
use Rattle.session_lines.specs.ChangeLinesLines.{lines_of}
use Rattle.session_lines.proofs.change_lines_lines.change_lines.Given as goal

abbrev pub invariant-loop-left : goal.invariant-loop-left
invariant-loop-left l = record { so_far : map (λ line. line.items) l.lines.items ++ lines_of (program_view l.program) l.number (map logged l.left) ≡ lines_of (program_view l.program) 1 (map logged l.changes) }

abbrev pub decreases-loop-left : goal.decreases-loop-left
decreases-loop-left l = length l.left
