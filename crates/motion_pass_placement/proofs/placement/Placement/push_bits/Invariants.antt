use Rattle.std.proofs.Common.{◌≡◌, ◌↔◌, ◌+◌, ◌*◌, ◌/◌, ℕ, true, Some, map}
use Rattle.std.specs.Prelude.{slice_get}
use Rattle.graph_core.specs.Graphs.{Graph, instruction_view}
use Rattle.graph_core.specs.Computations.{Computation}
use Rattle.motion_pass_points.specs.Ways.{IsCome, IsInserted, along}
use Rattle.motion_pass_points.specs.Words.{has}
use Rattle.motion_pass_placement.specs.Placed.{AreDone, IsPlaced, all_of}
use Rattle.motion_pass_placement.proofs.placement.Placement.push_bits.Given as goal

abbrev pub invariant-loop-bit : goal.invariant-loop-bit
invariant-loop-bit l = (g : Graph) → IsPlaced g l.self → (from to : ℕ) → ((k : ℕ) (e : Computation) → k / 64 ≡ l.column → slice_get (all_of l.self) k ≡ Some e → (has l.bits k ≡ true) ↔ IsInserted g.blocks e (along from to)) → IsCome g.blocks (along from to)
    → AreDone g.blocks l.self (along from to) (l.column * 64) (map instruction_view l.fn.out.items) → AreDone g.blocks l.self (along from to) (l.column * 64 + l.bit) (map instruction_view l.out.items)
