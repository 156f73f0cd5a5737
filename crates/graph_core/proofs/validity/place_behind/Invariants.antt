use Rattle.std.proofs.Common.{◌≡◌, length, map}
use Rattle.std.specs.Prelude.{option_map}
use Rattle.debug_records.specs.declared.change.Place as declared-place
use Rattle.graph_core.specs.Graphs.{instruction_view}
use Rattle.graph_core.specs.Validity.{place_behind}
use Rattle.graph_core.proofs.validity.place_behind.Given as goal

abbrev pub invariant-loop-left : goal.invariant-loop-left
invariant-loop-left l =
    place_behind (map instruction_view l.left) (option_map (λ (p : declared-place.Place). p.0) l.place)
    ≡ place_behind (map instruction_view l.instructions) (option_map (λ (p : declared-place.Place). p.0) l.fn.before)

abbrev pub decreases-loop-left : goal.decreases-loop-left
decreases-loop-left l = length l.left
