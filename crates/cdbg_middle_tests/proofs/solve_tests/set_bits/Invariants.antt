use Rattle.cdbg_middle_tests.specs.Passing.{HasShape}
use Rattle.cdbg_middle_tests.proofs.solve_tests.set_bits.Given as goal

abbrev pub invariant-loop-bit : goal.invariant-loop-bit
invariant-loop-bit l = HasShape 2 70 l.rows
