use Rattle.std.proofs.Common.{◌≡◌, ◌∙◌, ap, sym, false, subst, Some, None, arith, to_z, of_z}
use Rattle.std.specs.Prelude.{if◌then◌else◌, unsigned_abs, pos, int_lt, ◌&&◌, ◌*ℤ◌, ◌^◌}
use Rattle.std.specs.Int.{w64}
use Rattle.std.proofs.lemmas.Int.{to_z-of_z}
use Rattle.c_type_rules.specs.Integers.{integer}
use Rattle.word_base.specs.Operations.{is_shift_count, result_of_type}
use Rattle.c_type_rules.proofs.Numbers.{shifts}
use Rattle.c_type_rules.proofs.constant.left_shift.Goals as goal

pub returns : goal.returns
returns c =
    let t = integer c.args.of in
    let same : to_z w64 (of_z w64 c.args.by) ≡ c.args.by = grind (arith, to_z-of_z) in
    let counts = subst (λ z. Some c.in_ok-by.by ≡ (if is_shift_count t z then Some (unsigned_abs z) else None)) same c.in_ok-by.ensures.number in
    let same_left : to_z w64 (of_z w64 c.args.left) ≡ c.args.left = grind (arith, to_z-of_z) in
    let stays = subst (λ z. (t.is_signed && int_lt z (pos 0)) ≡ false) same_left (sym c.if-is_below_zero.ensures) in
    c.left_shifted.ensures ∙ ap (λ z. result_of_type t (z *ℤ pos (2 ^ c.in_ok-by.by))) same_left ∙ shifts t c.args.left c.args.by c.in_ok-by.by counts stays
