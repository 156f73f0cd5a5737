use Rattle.std.proofs.Common.{map, subst}
use Rattle.graph_core.specs.Graphs.{block_view}
use Rattle.graph_paths.specs.PathMarksTable.{bits_of}
use Rattle.graph_paths.specs.Reached.{AreLed}
use Rattle.dead_pass_notes.proofs.idle_graph.IdleGraph.new.Goals as goal

pub idle_writes-requires-clause-led : goal.idle_writes-requires-clause-led
idle_writes-requires-clause-led c = subst (λ xs. AreLed (map block_view xs) (bits_of c.in_ok-reached.reached 0)) c.deref.ensures.value c.in_ok-reached.ensures

pub returns-clause-borne_out : goal.returns-clause-borne_out
returns-clause-borne_out c = record {
  goes = c.in_ok-turns.ensures;
  led = subst (λ xs. AreLed (map block_view xs) (bits_of c.in_ok-reached.reached 0)) c.deref.ensures.value c.in_ok-reached.ensures;
  writes = c.in_ok-writes.ensures;
}
