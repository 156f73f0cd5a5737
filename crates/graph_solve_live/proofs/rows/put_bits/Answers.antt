use Rattle.std.proofs.Common.{inl, inr, refl, sym, ap, ◌∙◌, arith}
use Rattle.std.proofs.lemmas.Bool.{cases_eq}
use Rattle.bit_rows.specs.Grid.{is_set}
use Rattle.graph_paths.specs.PathMarksTable.{bits_of}
use Rattle.graph_solve_live.proofs.Copying.{none_elsewhere, then_elsewhere}
use Rattle.graph_solve_live.proofs.rows.put_bits.Goals as goal

pub loop-bit-init : goal.loop-bit-init
loop-bit-init c = record {
  least = omega arith;
  elsewhere = none_elsewhere c.args.row c.args.rows.now;
  before = λ bit lt. refl;
  here = λ bit le lt. absurd (omega (arith, le, lt));
}

pub loop-bit-preserved : goal.loop-bit-preserved
loop-bit-preserved c =
    let row = c.args.row in
    let k = c.loop-bit.bit in
    let before = c.loop-bit.invariant in
    record {
      least = omega (arith, before.least);
      elsewhere = then_elsewhere row c.args.rows.now c.loop-bit.rows c.put_bit.new.rows before.elsewhere c.put_bit.ensures.elsewhere;
      before = λ bit lt. c.put_bit.ensures.others bit (λ e. omega (arith, e, lt, before.least)) ∙ before.before bit lt;
      here = λ bit le lt. elim (cases_eq bit k) [
        | inl e ↦ ap (is_set c.put_bit.new.rows row) e ∙ c.put_bit.ensures.here ∙ ap (bits_of c.args.marks.now c.args.from) (sym e)
        | inr ne ↦ c.put_bit.ensures.others bit ne ∙ before.here bit le (omega (arith, lt, ne))
      ];
    }

pub returns-clause-here : goal.returns-clause-here
returns-clause-here c = λ bit le lt. c.loop-bit.invariant.here bit le (omega (arith, lt, c.loop-bit-test.false))
