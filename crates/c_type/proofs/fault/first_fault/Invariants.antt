use Rattle.std.proofs.Common.{◌≡◌, drop}
use Rattle.c_type.specs.Faults.{first_behind, first_fault}
use Rattle.c_type.proofs.fault.first_fault.Given as goal

abbrev pub invariant-loop-fault : goal.invariant-loop-fault
invariant-loop-fault l = first_behind l.best (drop l.fault-index l.faults) ≡ first_fault l.faults
