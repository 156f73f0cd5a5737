use Rattle.std.specs.Prelude.{◌↔◌}
use Rattle.graph_core.specs.Graphs.{Recipe, operand_view}
use Rattle.dead_pass_notes.specs.Spots.{IsPoint}
use Rattle.dead_pass_notes.specs.Idle.{IsBorneOut, assignments_of, graph_of}
use Rattle.dead_pass_notes.specs.Sources.{IsRead}
use Rattle.dead_pass_notes.proofs.Circles.{IsMarked}
use Rattle.dead_pass_notes.proofs.recipes.source_of.Given as goal

abbrev pub invariant-loop-steps : goal.invariant-loop-steps
invariant-loop-steps l = record {
  same : IsBorneOut l.idle → (r : Recipe) → IsRead (assignments_of l.idle) (graph_of l.idle) l.note l.fn.at (operand_view l.fn.operand) r ↔ IsRead (assignments_of l.idle) (graph_of l.idle) l.note l.at (operand_view l.operand) r;
  point : IsBorneOut l.idle → IsPoint (graph_of l.idle) l.fn.at.block l.fn.at.left → IsPoint (graph_of l.idle) l.at.block l.at.left;
  marked : IsBorneOut l.idle → IsMarked (assignments_of l.idle) (graph_of l.idle) l.note l.mark l.at (operand_view l.operand);
}
