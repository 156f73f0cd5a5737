use Rattle.std.proofs.Common.{ap, sym}
use Rattle.graph_core.specs.Graphs.{operand_view}
use Rattle.currency_notes.specs.Homes.{IsReadBy}
use Rattle.currency_notes.proofs.ReadNames.{each_of_name}
use Rattle.currency_notes.proofs.recipes.is_operand_reader.Goals as goal

pub returns-in-Name : goal.returns-in-Name
returns-in-Name c =
    each_of_name (λ y. IsReadBy c.args.homes.now y c.args.scalar) c.in-Name.read.0 c.is_read_by.result c.is_read_by.ensures (operand_view c.args.operand) (ap operand_view (sym c.in-Name.is))
