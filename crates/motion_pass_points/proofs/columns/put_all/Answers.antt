use Rattle.std.proofs.Common.{◌≡◌, ◌<◌, ◌%◌, ◌&&◌, map, refl, subst, sym, ap, ◌∙◌, arith}
use Rattle.std.proofs.lemmas.Bool.{le-ltb, lt-ltb}
use Rattle.std.proofs.lemmas.Nat.{mod_below}
use Rattle.motion_pass_points.specs.MotionPointsComputing.{computation_view}
use Rattle.motion_pass_points.specs.Columns.{is_operand}
use Rattle.motion_pass_points.specs.Named.{AreNamed}
use Rattle.motion_pass_points.proofs.Marking.{column_more}
use Rattle.motion_pass_points.proofs.columns.put_all.Goals as goal

pub loop-bit-init : goal.loop-bit-init
loop-bit-init c = record { size = refl; marked = λ x n of. c.requires.clear x n ∙ sym (ap (λ b. b && is_operand (map computation_view c.args.all.now) n x) (le-ltb (n % 64) 0 (omega arith))) }

pub loop-bit-preserved : goal.loop-bit-preserved
loop-bit-preserved c = record {
  size = c.put_number.ensures.size ∙ c.loop-bit.invariant.size;
  marked = λ x n of.
      (let small : c.loop-bit.bit < 64 = omega (arith, c.loop-bit-test.true) in
      column_more (map computation_view c.args.all.now) c.args.index c.loop-bit.bit x n small of _ _ (c.loop-bit.invariant.marked x n of) (c.put_number.ensures.marked x n));
}

pub put_number-requires : goal.put_number-requires
put_number-requires c = subst (λ m. AreNamed m (map computation_view c.args.all.now)) (sym c.loop-bit.invariant.size) c.requires.named

pub returns : goal.returns
returns c = λ x n of.
    (let low : n % 64 < 64 = mod_below n 64 (omega arith) in
    let met : n % 64 < c.loop-bit.bit = omega (arith, low, c.loop-bit-test.false) in
    c.loop-bit.invariant.marked x n of ∙ ap (λ b. b && is_operand (map computation_view c.args.all.now) n x) (lt-ltb (n % 64) c.loop-bit.bit met))
