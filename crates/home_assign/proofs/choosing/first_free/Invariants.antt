use Rattle.std.proofs.Common.{ℕ, ◌<◌}
use Rattle.home_assign.specs.Registers.{HaveSameClashes, HaveSameRegisters, IsFreeFor}
use Rattle.home_assign.proofs.choosing.first_free.Given as goal

abbrev pub invariant-loop-register : goal.invariant-loop-register
invariant-loop-register l = record {
  clashes : HaveSameClashes l.fn.interference l.interference;
  registers : HaveSameRegisters l.fn.interference l.interference;
  none : (j : ℕ) → j < l.register → IsFreeFor l.fn.interference j l.name → ⊥;
}
