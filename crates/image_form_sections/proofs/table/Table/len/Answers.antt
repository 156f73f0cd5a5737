use Rattle.std.proofs.Common.{sym}
use Rattle.image_form_sections.proofs.RowLaws.{length-rows_at}
use Rattle.image_form_sections.proofs.table.Table.len.Goals as goal

pub returns-clause-len : goal.returns-clause-len
returns-clause-len c = sym (length-rows_at c.args.self.now.width c.args.self.now.count c.args.self.now.bytes.now)
