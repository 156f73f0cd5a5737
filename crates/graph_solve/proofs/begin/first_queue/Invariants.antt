use Rattle.graph_solve.proofs.Beginning.{IsQueue}
use Rattle.graph_solve.proofs.begin.first_queue.Given as goal

abbrev pub invariant-loop-block : goal.invariant-loop-block
invariant-loop-block l = IsQueue l.blocks l.block l.queue.items
