use Rattle.std.proofs.Common.{◌≡◌, ◌+◌, ◌*◌, ◌<◌, ◌≤◌, Bool, List, length, sym, subst, arith}
use Rattle.bit_rows.specs.Grid.{is_set, row_at}
use Rattle.graph_paths.specs.PathMarksTable.{bits_of}
use Rattle.graph_solve.specs.Rows.{AreSameElsewhere}
use Rattle.graph_solve_live.proofs.Copying.{none_elsewhere, then_elsewhere, word_elsewhere, word_more}
use Rattle.graph_solve_live.proofs.rows.put_words.Goals as goal

pub loop-index-init : goal.loop-index-init
loop-index-init c = record { elsewhere = none_elsewhere c.args.row c.args.rows.now; here = λ bit lt. absurd (omega (arith, lt)) }

pub put_word-requires-clause-index : goal.put_word-requires-clause-index
put_word-requires-clause-index c = (let size = c.loop-index.invariant.elsewhere.width in omega (arith, size, c.requires.width, c.requires.words, c.loop-index-test.true))

pub loop-index-preserved : goal.loop-index-preserved
loop-index-preserved c =
    let rows = c.loop-index.rows in
    let row = c.args.row in
    let index = c.loop-index.index in
    let before = c.loop-index.invariant in
    let inside : row < length rows = (let count = before.elsewhere.count in omega (arith, count, c.requires.row)) in
    let full : 64 * index + 64 ≤ length (row_at rows row) = (let size = before.elsewhere.width in omega (arith, size, c.requires.width, c.requires.words, c.loop-index-test.true)) in
    record {
      elsewhere = then_elsewhere row c.args.rows.now rows c.put_word.new.self before.elsewhere (subst (AreSameElsewhere row rows) (sym c.put_word.ensures) (word_elsewhere rows row index c.word-word.result inside));
      here = λ bit lt. subst (λ (new : List (List Bool)). is_set new row bit ≡ bits_of c.args.marks.now c.args.from bit) (sym c.put_word.ensures)
          (word_more rows row index c.word-word.result inside (bits_of c.args.marks.now c.args.from) full c.word-word.ensures before.here bit lt);
    }
