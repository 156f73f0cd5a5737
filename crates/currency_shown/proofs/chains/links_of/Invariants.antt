use Rattle.std.proofs.Common.{◌≡◌, ◌<◌, ℕ, None, Some, length}
use Rattle.std.specs.Prelude.{slice_get}
use Rattle.graph_core.specs.declared.block.Block as declared-block
use Rattle.graph_core.specs.Graphs.{end_view}
use Rattle.currency_shown.specs.Chains.{name_at, AreEdgesNext}
use Rattle.currency_shown.proofs.chains.links_of.Given as goal

abbrev pub invariant-loop-number : goal.invariant-loop-number
invariant-loop-number l = record {
  size : length l.before.items ≡ length l.blocks;
  first : name_at l.before.items 0 ≡ None;
  edges : (n : ℕ) (b : declared-block.Block) → n < l.number → slice_get l.blocks n ≡ Some b → AreEdgesNext l.before.items l.positions.items n (end_view b.end);
}
