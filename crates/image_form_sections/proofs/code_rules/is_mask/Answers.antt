use Rattle.std.proofs.Common.{◌≡◌, ◌∙◌, ◌/◌, ◌%◌, ◌<◌, ◌^◌, true, false, cond, Bool, ℕ, get_or, ap, arith, sym}
use Rattle.std.proofs.lemmas.Bool.{eq-eqb, ne_eqb}
use Rattle.image_form_sections.specs.Masks.{home_registers, is_in_mask}
use Rattle.image_form_sections.proofs.MaskLaws.{mask_next, bit_small}
use Rattle.image_form_sections.proofs.code_rules.is_mask.Goals as goal
use Rattle.image_form_sections.proofs.code_rules.is_mask.Goals.{then-mask-bit-eq1, else-mask-bit-eq1}

pub loop-register-preserved : goal.loop-register-preserved
loop-register-preserved c =
    let mask = c.args.mask in
    let i = c.loop-register.register-index in
    let low : i < 15 = omega (arith, c.loop-register-test.true) in
    let register = get_or home_registers i 0 in
    let bit : c.pow-bit.result ≡ 2 ^ register = c.pow-bit.ensures in
    let next = mask_next mask i low in
    let small = bit_small i low in
    elim c.if-mask-bit-eq1.branch [
      | then-mask-bit-eq1 w ↦
          let in_mask : is_in_mask mask register ≡ true = eq-eqb (mask / 2 ^ register % 2) 1 (ap (λ (n : ℕ). mask / n % 2) (sym bit) ∙ w.if-mask-bit-eq1.true) in
          let more = ap (λ (b : Bool). cond b (2 ^ register) 0) in_mask in
          (omega (arith, w.homes-is, c.loop-register.invariant.0, bit, next, more), omega (arith, w.homes-is, c.loop-register.invariant.1, bit, small))
      | else-mask-bit-eq1 w ↦
          let out_of : is_in_mask mask register ≡ false = ne_eqb (mask / 2 ^ register % 2) 1 (λ e. w.if-mask-bit-eq1.false (ap (λ (n : ℕ). mask / n % 2) bit ∙ e)) in
          let more = ap (λ (b : Bool). cond b (2 ^ register) 0) out_of in
          (omega (arith, w.homes-is, c.loop-register.invariant.0, next, more), omega (arith, w.homes-is, c.loop-register.invariant.1))
    ]
