use Rattle.std.proofs.Common.{◌≡◌, ◌<◌, length, sym, ap, ◌∙◌, arith}
use Rattle.std.specs.FinSet.{insert}
use Rattle.std.proofs.lemmas.List.{take_all}
use Rattle.bit_rows.specs.Grid.{row_at}
use Rattle.graph_solve.specs.Rows.{set_of}
use Rattle.graph_solve.proofs.Reading.{set_more, set_left}
use Rattle.graph_solve_live.proofs.rows.facts_of.Goals as goal
use Rattle.graph_solve_live.proofs.rows.facts_of.Goals.{then-get+in_ok-add, else-get}

pub loop-bit-preserved : goal.loop-bit-preserved
loop-bit-preserved c =
    let marks = c.args.marks.now in
    let row = row_at marks.rows c.args.row in
    let k = c.loop-bit.bit in
    let size : length row ≡ marks.width = (let each = marks.each in marks.wide c.args.row (omega (arith, c.requires.row, each))) in
    let lt : k < length row = omega (arith, size, c.requires.width, c.loop-bit-test.true) in
    elim c.if-get.branch [
      | then-get+in_ok-add w ↦ w.facts-is ∙ w.in_ok-add.ensures.added ∙ ap (λ s. insert s k) c.loop-bit.invariant ∙ set_more row k lt (sym c.get.ensures ∙ w.if-get.true)
      | else-get w ↦ w.facts-is ∙ c.loop-bit.invariant ∙ set_left row k lt (sym c.get.ensures ∙ w.if-get.false)
    ]

pub returns : goal.returns
returns c =
    let marks = c.args.marks.now in
    let row = row_at marks.rows c.args.row in
    let size : length row ≡ marks.width = (let each = marks.each in marks.wide c.args.row (omega (arith, c.requires.row, each))) in
    c.loop-bit.invariant ∙ ap set_of (take_all c.loop-bit.bit row (omega (arith, size, c.requires.width, c.loop-bit-test.false)))
