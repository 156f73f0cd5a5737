use Rattle.graph_core.specs.Graphs.{graph_view}
use Rattle.dead_pass_rule.specs.Asking.{is_going}
use Rattle.dead_pass_rule.specs.Walks.{turn_of}
use Rattle.dead_pass_notes.proofs.Ending.{IsSearching}
use Rattle.dead_pass_notes.proofs.ways.Ways.search.Given as goal

abbrev pub invariant-loop-at : goal.invariant-loop-at
invariant-loop-at l = IsSearching (graph_view l.graph) (is_going (turn_of l.turns)) l.sought.to l.sought.name l.fn.self l.self l.at
