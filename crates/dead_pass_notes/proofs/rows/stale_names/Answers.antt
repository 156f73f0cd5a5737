use Rattle.std.proofs.Common.{◌≡◌, length, map, arith}
use Rattle.graph_core.specs.Graphs.{graph_view}
use Rattle.graph_paths.specs.PathMarksTable.{bits_of}
use Rattle.dead_pass_rule.specs.Asking.{is_going}
use Rattle.dead_pass_rule.specs.Walks.{turn_of}
use Rattle.dead_pass_notes.proofs.BlockRows.{flood_stale, flood_tells}
use Rattle.dead_pass_notes.proofs.rows.stale_names.Goals as goal

pub returns-clause-stale : goal.returns-clause-stale
returns-clause-stale c = λ assignments idle.
    flood_stale (graph_view c.args.graph.now) (is_going (turn_of c.args.turns.now)) idle (bits_of c.args.reached.now 0) c.requires.led (bits_of c.in_ok-starts.starts) (bits_of c.settle.new.comes) (bits_of c.settle.new.leaves) c.in_ok-starts.ensures.clear c.in_ok-settle.ensures.settled

pub returns-clause-all : goal.returns-clause-all
returns-clause-all c = λ n inside.
    flood_tells (graph_view c.args.graph.now) (is_going (turn_of c.args.turns.now)) (bits_of c.args.reached.now 0) (bits_of c.in_ok-starts.starts) (bits_of c.settle.new.comes) (bits_of c.settle.new.leaves) c.in_ok-settle.ensures.settled n
