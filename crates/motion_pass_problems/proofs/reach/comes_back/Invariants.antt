use Rattle.std.proofs.Common.{◌<◌, ℕ, false, map}
use Rattle.std.specs.Prelude.{slice_index_or}
use Rattle.graph_core.specs.Graphs.{block_view}
use Rattle.motion_pass_problems.specs.Flowing.{HasEdge}
use Rattle.motion_pass_problems.proofs.reach.comes_back.Given as goal

abbrev pub invariant-loop-number : goal.invariant-loop-number
invariant-loop-number l = (m : ℕ) → m < l.number → HasEdge (map block_view l.blocks) (λ n. slice_index_or l.reached n false) m 0 → ⊥
