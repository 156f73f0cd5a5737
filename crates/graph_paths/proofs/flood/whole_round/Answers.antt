use Rattle.std.proofs.Common.{arith}
use Rattle.graph_paths.specs.Flood.{IsClosedAt}
use Rattle.graph_paths.specs.PathMarksTable.{bits_of}
use Rattle.graph_paths.proofs.Flooding.{all_turns}
use Rattle.graph_paths.proofs.flood.whole_round.Goals as goal

pub returns-clause-closed : goal.returns-clause-closed
returns-clause-closed g c = λ quiet n lt.
    all_turns (λ k. IsClosedAt (g.T.Transfer.course c.args.transfer.now) k (bits_of c.loop-turn.comes) (bits_of c.loop-turn.leaves)) c.forward-forward.result _
    (λ k less. c.loop-turn.invariant.closed quiet k (omega (arith, less, c.loop-turn-test.false, c.loop-turn.auto.turn-end))) n (omega (arith, lt, c.requires.few))
