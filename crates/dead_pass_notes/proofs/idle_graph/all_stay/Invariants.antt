use Rattle.std.proofs.Common.{◌≡◌, ℕ, ◌<◌}
use Rattle.std.specs.Prelude.{slice_index_or}
use Rattle.dead_pass_notes.proofs.idle_graph.all_stay.Given as goal

abbrev pub invariant-loop-turn : goal.invariant-loop-turn
invariant-loop-turn l = (left : ℕ) → left < l.turn-index → slice_index_or l.turns left 0 ≡ 0
