use Rattle.std.proofs.Common.{◌≡◌, Bool, false, List, [], length, get_or, sym, ap, ◌∙◌, subst, arith}
use Rattle.std.proofs.lemmas.List.{length-set, get_or-set_same}
use Rattle.bit_rows.specs.Grid.{is_set, row_at}
use Rattle.graph_paths.specs.Table.{AreWide}
use Rattle.graph_paths.proofs.Tables.{wide_set}
use Rattle.graph_paths.proofs.marks.Marks.copy_from.Goals as goal

pub copy_from-requires-clause-width : goal.copy_from-requires-clause-width
copy_from-requires-clause-width c =
    let old = c.args.self.now in
    let other = c.args.other.now in
    other.wide c.args.row (omega (arith, other.each, c.requires.row)) ∙ c.requires.widths ∙ sym (old.wide c.args.to (omega (arith, old.each, c.requires.to)))

pub invariant_of-self : goal.invariant_of-self
invariant_of-self c =
    let old = c.args.self.now in
    let other = c.args.other.now in
    let rows : List (List Bool) = old.rows in
    let e = c.copy_from.ensures in
    let P : List (List Bool) → Type 0 = λ r. AreWide old.width r in
    let here : length (row_at other.rows c.args.row) ≡ old.width = other.wide c.args.row (omega (arith, other.each, c.requires.row)) ∙ c.requires.widths in
    record {
      each = ap (λ (r : List (List Bool)). length r) e ∙ length-set rows c.args.to (row_at other.rows c.args.row) ∙ old.each;
      wide = subst P (sym e) (wide_set old.width rows c.args.to (row_at other.rows c.args.row) here old.wide);
    }

pub returns-clause-there : goal.returns-clause-there
returns-clause-there c =
    let old = c.args.self.now in
    λ bit. ap (λ (r : List (List Bool)). is_set r c.args.to bit) c.copy_from.ensures ∙ ap (λ (r : List Bool). get_or r bit false) (get_or-set_same old.rows c.args.to (row_at c.args.other.now.rows c.args.row) [] (omega (arith, old.each, c.requires.to)))
