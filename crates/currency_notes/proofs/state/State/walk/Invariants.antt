use Rattle.std.proofs.Common.{◌≡◌, ℕ, List, Some, drop, map, option_map}
use Rattle.std.specs.Prelude.{slice_get}
use Rattle.debug_records.specs.declared.change.Place as declared-place
use Rattle.graph_core.specs.Graphs.{End, Logged, block_view, graph_view, instruction_view}
use Rattle.dead_pass_writes.specs.RemovedChangesTelling.{AreToldOf}
use Rattle.currency_notes.specs.Full.{AreExact, IsFullAt}
use Rattle.currency_notes.specs.Ranks.{IsSized}
use Rattle.currency_notes.specs.Sources.{IsAttained}
use Rattle.currency_notes.proofs.Sourcing.{place_behind_first}
use Rattle.currency_notes.proofs.state.State.walk.Given as goal

abbrev pub invariant-loop-instruction : goal.invariant-loop-instruction
invariant-loop-instruction l = record {
  sized : IsSized l.function l.fn.self → IsSized l.function l.self;
  full : (n : ℕ) (e : End) → AreExact l.function → IsFullAt l.function l.fn.self n (map instruction_view l.block.instructions.items) e → IsFullAt l.function l.self n (map instruction_view (drop l.instruction-index l.block.instructions.items)) e;
  place : option_map (λ (p : declared-place.Place). p.0) l.place ≡ place_behind_first instruction_view l.block.instructions.items (option_map (λ (p : declared-place.Place). p.0) l.block.place) l.instruction-index;
  attained : (log : List Logged) (n : ℕ) (e : End) → AreToldOf log l.function.removed.now → slice_get (graph_view l.function.graph.now).blocks n ≡ Some (block_view l.block)
      → IsAttained log (graph_view l.function.graph.now) l.fn.self n (map instruction_view l.block.instructions.items) e → IsAttained log (graph_view l.function.graph.now) l.self n (map instruction_view (drop l.instruction-index l.block.instructions.items)) e;
}
