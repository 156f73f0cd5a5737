use Rattle.std.proofs.Common.{[]}
use Rattle.home_assign.specs.Holders.{AreHolders}
use Rattle.home_assign.proofs.holders.no_holders.Given as goal

abbrev pub invariant-loop-register : goal.invariant-loop-register
invariant-loop-register l = AreHolders [] l._register l.holders.items
