use Rattle.std.proofs.Common.{◌≡◌, ◌*◌, ◌/◌, inl, inr, length, ◌∙◌}
use Rattle.std.proofs.lemmas.Bool.{cases_lt}
use Rattle.bit_rows.specs.Grid.{row_at}
use Rattle.graph_solve_live.proofs.Copying.{same_sets, then_elsewhere}
use Rattle.graph_solve_live.proofs.rows.put_row.Goals as goal

pub returns-clause-elsewhere : goal.returns-clause-elsewhere
returns-clause-elsewhere c = then_elsewhere c.args.row c.args.rows.now c.put_words.new.rows c.put_bits.new.rows c.put_words.ensures.elsewhere c.put_bits.ensures.elsewhere

pub returns-clause-here : goal.returns-clause-here
returns-clause-here c =
    let row = c.args.row in
    let width = c.args.width in
    let size : length (row_at c.put_bits.new.rows row) ≡ width = c.put_bits.ensures.elsewhere.width ∙ c.put_words.ensures.elsewhere.width ∙ c.requires.width in
    same_sets c.put_bits.new.rows row c.args.marks.now c.args.from width c.requires.from c.requires.wide size (λ bit lt. elim (cases_lt bit (64 * (width / 64))) [
      | inl early ↦ c.put_bits.ensures.before bit early ∙ c.put_words.ensures.here bit early
      | inr late ↦ c.put_bits.ensures.here bit late lt
    ])
