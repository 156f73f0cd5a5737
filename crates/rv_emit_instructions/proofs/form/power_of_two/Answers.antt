use Rattle.std.proofs.Common.{refl, sym, ◌∙◌}
use Rattle.std.proofs.lemmas.Nat.{one_shl}
use Rattle.rv_emit_instructions.specs.Operations.{power_of_two}
use Rattle.rv_emit_instructions.proofs.Powers.{power_next}
use Rattle.rv_emit_instructions.proofs.form.power_of_two.Goals as goal

pub loop-exponent-init : goal.loop-exponent-init
unfolding power_of_two
loop-exponent-init c = refl

pub loop-exponent-preserved : goal.loop-exponent-preserved
loop-exponent-preserved c =
    sym (power_next c.loop-exponent.exponent c.args.word c.loop-exponent-test.true (λ e. c.if-word-exponent.false (e ∙ sym (one_shl c.loop-exponent.exponent 32 c.loop-exponent-test.true)))) ∙ c.loop-exponent.invariant
