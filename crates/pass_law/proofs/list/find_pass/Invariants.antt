use Rattle.std.proofs.Common.{take}
use Rattle.debug_records.specs.Change.{letters}
use Rattle.pass_law.specs.HandedIn.{IsNoPass}
use Rattle.pass_law.proofs.list.find_pass.Given as goal

abbrev pub invariant-loop-i : goal.invariant-loop-i
invariant-loop-i g l = IsNoPass (λ p. (goal.Pass-dyn g (p.vtable, p.value)).named p.value) (take l.i l.passes) (letters l.name)
