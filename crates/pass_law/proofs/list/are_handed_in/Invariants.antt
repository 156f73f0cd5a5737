use Rattle.std.proofs.Common.{map, take}
use Rattle.debug_records.specs.Change.{letters}
use Rattle.pass_law.specs.HandedIn.{AreHandedIn}
use Rattle.pass_law.proofs.list.are_handed_in.Given as goal

abbrev pub invariant-loop-name : goal.invariant-loop-name
invariant-loop-name g l = AreHandedIn (λ p. (goal.Pass-dyn g (p.vtable, p.value)).named p.value) l.passes (map letters (take l.name-index l.names))
