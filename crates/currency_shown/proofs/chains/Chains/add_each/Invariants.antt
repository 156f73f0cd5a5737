use Rattle.currency_shown.specs.Chains.{AreBegun, AreKept}
use Rattle.currency_shown.proofs.chains.Chains.add_each.Given as goal

abbrev pub invariant-loop-number : goal.invariant-loop-number
invariant-loop-number l = record {
  begun : AreBegun l.blocks l.links l.self;
  kept : AreKept l.fn.self l.self;
}
