-- Edges that paths come to.
use Rattle.std.proofs.Common.{ℕ, Bool, List}
use Rattle.graph_core.specs.Graphs.{Block}
use Rattle.motion_pass_points.specs.Ways.{along, leaves, IsCome, goes}
use Rattle.motion_pass_problems.specs.Flowing.{HasEdge}
use Rattle.motion_pass_problems.specs.Facts.{AreReached}
use Rattle.motion_pass_problems.proofs.Standing.{come_at, come_to, stands_behind}

module _ (blocks : List Block) (reached : ℕ → Bool) (are : AreReached blocks reached) (m n : ℕ) where
  pub edge_come : HasEdge blocks reached m n → IsCome blocks (along m n)
  edge_come edge = goes (come_to blocks reached are (stands_behind blocks reached m edge.block edge.is edge.comes)) (leaves edge.leads)

  pub come_edge : IsCome blocks (along m n) → HasEdge blocks reached m n
  come_edge come = come_at blocks reached are come
