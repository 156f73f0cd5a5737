use Rattle.std.proofs.Common.{◌≡◌, ◌-◌}
use Rattle.rv_emit_instructions.specs.Operations.{power_from, power_of_two}
use Rattle.rv_emit_instructions.proofs.form.power_of_two.Given as goal

abbrev pub invariant-loop-exponent : goal.invariant-loop-exponent
invariant-loop-exponent l = power_from l.exponent (32 - l.exponent) l.fn.word ≡ power_of_two l.fn.word
