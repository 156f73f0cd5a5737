use Rattle.std.proofs.Common.{◌≡◌, ℕ, length, map}
use Rattle.std.specs.Prelude.{option_map}
use Rattle.debug_records.specs.declared.change.Place.{Place}
use Rattle.graph_core.specs.Graphs.{block_view, instruction_view}
use Rattle.dead_pass_writes.specs.Telling.{told, written_by}
use Rattle.dead_pass_writes.proofs.writes.PlaceWrites.add_block.Given as goal

abbrev pub invariant-loop-ahead : goal.invariant-loop-ahead
invariant-loop-ahead l = (p x : ℕ) → written_by p x (told l.self p x) (option_map (λ (q : Place). q.0) l.place) l.number (map instruction_view l.ahead) ≡ written_by p x (told l.fn.self p x) (block_view l.block).place l.number (block_view l.block).instructions

abbrev pub decreases-loop-ahead : goal.decreases-loop-ahead
decreases-loop-ahead l = length l.ahead
