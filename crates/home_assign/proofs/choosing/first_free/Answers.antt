use Rattle.std.proofs.Common.{◌∙◌, sym, subst, true≢false, inl, inr, arith}
use Rattle.std.proofs.lemmas.Bool.{cases_lt}
use Rattle.home_assign.specs.Registers.{IsFreeFor}
use Rattle.home_assign.proofs.Choices.{free_same, registers_then, same_then}
use Rattle.home_assign.proofs.choosing.first_free.Goals as goal

pub loop-register-preserved : goal.loop-register-preserved
loop-register-preserved c = record {
  clashes = same_then c.args.interference.now c.loop-register.interference c.is_free.new.self c.loop-register.invariant.clashes c.is_free.ensures.clashes;
  registers = registers_then c.args.interference.now c.loop-register.interference c.is_free.new.self c.loop-register.invariant.registers c.is_free.ensures.registers;
  none = λ j lt free. elim (cases_lt j c.loop-register.register) [
    | inl less ↦ c.loop-register.invariant.none j less free
    | inr at ↦
        let here : IsFreeFor c.args.interference.now c.loop-register.register c.args.name = subst (λ k. IsFreeFor c.args.interference.now k c.args.name) (omega (arith, lt, at)) free in
        true≢false
        (sym (c.is_free.ensures.free.1 (free_same c.args.interference.now c.loop-register.interference c.loop-register.register c.args.name c.loop-register.invariant.clashes c.loop-register.invariant.registers (omega (arith, c.loop-register-test.true)) c.requires here)) ∙ c.if-is_free.false)
  ];
}
