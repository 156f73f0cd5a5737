use Rattle.std.proofs.Common.{take}
use Rattle.home_assign.specs.Holders.{AreHolders}
use Rattle.home_assign.proofs.holders.holders_of.Given as goal

abbrev pub invariant-loop-name : goal.invariant-loop-name
invariant-loop-name l = AreHolders (take l.name l.homes) 32 l.holders.items
