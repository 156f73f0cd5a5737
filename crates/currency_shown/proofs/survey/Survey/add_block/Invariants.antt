use Rattle.std.proofs.Common.{◌≡◌, ℕ, Some, map, drop, option_map, true}
use Rattle.std.specs.Prelude.{slice_get, ◌⊎◌}
use Rattle.debug_records.specs.declared.change.Place as declared-place
use Rattle.graph_core.specs.Graphs.{block_view, end_view, graph_view, instruction_view}
use Rattle.graph_core.specs.Paths.{Among}
use Rattle.graph_core.specs.Validity.{markers_in}
use Rattle.currency_notes.specs.declared.state.State as declared-state
use Rattle.currency_notes.proofs.Sourcing.{place_behind_first}
use Rattle.currency_shown.specs.declared.found.Found as declared-found
use Rattle.currency_shown.specs.Found.{is_met}
use Rattle.currency_shown.specs.Survey.{AreFresh, IsExtended, IsSomewhere, IsSound}
use Rattle.currency_shown.proofs.survey.Survey.add_block.Given as goal

abbrev pub invariant-loop-instruction : goal.invariant-loop-instruction
invariant-loop-instruction l = record {
  extended : IsExtended l.self l.fn.found l.found;
  fresh : AreFresh l.found (markers_in (map instruction_view (drop l.instruction-index l.block.instructions.items)));
  among : (p : ℕ) → Among p (markers_in (map instruction_view (drop l.instruction-index l.block.instructions.items))) → Among p (markers_in (map instruction_view l.block.instructions.items));
  only : (p : ℕ) → is_met l.found p ≡ true → (is_met l.fn.found p ≡ true) ⊎ Among p (markers_in (map instruction_view l.block.instructions.items));
  reached : IsSomewhere (graph_view l.self.function.now.graph.now) (map instruction_view (drop l.instruction-index l.block.instructions.items)) (end_view l.block.end);
  place : option_map (λ (p : declared-place.Place). p.0) l.place ≡ place_behind_first instruction_view l.block.instructions.items (option_map (λ (p : declared-place.Place). p.0) l.block.place) l.instruction-index;
  sound : (later : declared-found.Found) (last : declared-state.State) (n : ℕ) → IsExtended l.self l.found later → slice_get (graph_view l.self.function.now.graph.now).blocks n ≡ Some (block_view l.block)
      → IsSound l.self later n (map instruction_view (drop l.instruction-index l.block.instructions.items)) l.state last → IsSound l.self later n (map instruction_view l.block.instructions.items) l.fn.state last;
}
