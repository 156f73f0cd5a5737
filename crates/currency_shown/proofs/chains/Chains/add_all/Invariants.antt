use Rattle.std.proofs.Common.{◌≡◌, ◌<◌, ℕ, Some}
use Rattle.std.specs.Prelude.{slice_get}
use Rattle.graph_core.specs.declared.block.Block as declared-block
use Rattle.graph_core.specs.Graphs.{end_view}
use Rattle.graph_core.specs.Paths.{Among}
use Rattle.graph_core.specs.Uses.{targets_of}
use Rattle.currency_shown.specs.Chains.{AreBegun, AreKept, StartsIf}
use Rattle.currency_shown.proofs.chains.Chains.add_all.Given as goal

abbrev pub invariant-loop-block : goal.invariant-loop-block
invariant-loop-block l = record {
  begun : AreBegun l.blocks l.links l.self;
  kept : AreKept l.fn.self l.self;
  starts : (n : ℕ) (b : declared-block.Block) → n < l.block-index → slice_get l.blocks n ≡ Some b → (k : ℕ) → Among k (targets_of (end_view b.end)) → StartsIf l.blocks l.links l.self k;
}
