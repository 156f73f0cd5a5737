use Rattle.image_form_sections.proofs.table.Table.number.Goals.{else-row-self-via-then-row-self+else-field-self, else-row-self-via-else-row-self}
use Rattle.std.proofs.Common.{◌∙◌, sym}
use Rattle.image_form_sections.proofs.RowLaws.{cell_at, cell_below, cell_beside}
use Rattle.image_form_sections.proofs.table.Table.number.Goals as goal

pub returns-then-field-self : goal.returns-then-field-self
returns-then-field-self c = let t = c.args.self.now in c.number_at.ensures ∙ sym (cell_at t.width t.count c.args.row c.args.field t.bytes.now c.if-row-self.true c.if-field-self.true)

pub returns-else-row-self : goal.returns-else-row-self
returns-else-row-self c =
    let t = c.args.self.now in
    elim c.else-row-self.branch [
      | else-row-self-via-then-row-self+else-field-self w ↦ sym (cell_beside t.width t.count c.args.row c.args.field t.bytes.now w.if-row-self.true w.if-field-self.false)
      | else-row-self-via-else-row-self w ↦ sym (cell_below t.width t.count c.args.row c.args.field t.bytes.now w.if-row-self.false)
    ]
