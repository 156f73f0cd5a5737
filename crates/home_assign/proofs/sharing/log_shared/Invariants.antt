use Rattle.std.proofs.Common.{List, map, take}
use Rattle.debug_records.specs.Change.{changes}
use Rattle.graph_core.specs.Graphs.{Logged, graph_view, logged, scalar_view}
use Rattle.home_assign.specs.Moves.{AreMoves}
use Rattle.home_assign.specs.Sharing.{AreLogged, home_in}
use Rattle.home_assign.proofs.sharing.log_shared.Given as goal

abbrev pub invariant-loop-scalar : goal.invariant-loop-scalar
invariant-loop-scalar l =
    (made : List Logged) → AreMoves made l.moves → AreLogged made (home_in l.homes) (graph_view l.graph) l.pass (take l.scalar (map scalar_view l.graph.scalars.items)) (map logged (changes l.fn.log)) (map logged (changes l.log))
