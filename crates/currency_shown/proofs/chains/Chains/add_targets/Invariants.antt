use Rattle.std.proofs.Common.{ℕ, take}
use Rattle.graph_core.specs.Paths.{Among}
use Rattle.currency_shown.specs.Chains.{AreBegun, AreKept, StartsIf}
use Rattle.currency_shown.proofs.Targets.{label_numbers}
use Rattle.currency_shown.proofs.chains.Chains.add_targets.Given as goal

abbrev pub invariant-loop-target : goal.invariant-loop-target
invariant-loop-target l = record {
  begun : AreBegun l.blocks l.links l.self;
  kept : AreKept l.fn.self l.self;
  starts : (k : ℕ) → Among k (take l.target-index (label_numbers l.target-items)) → StartsIf l.blocks l.links l.self k;
}
