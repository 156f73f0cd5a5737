use Rattle.std.proofs.Common.{ap, sym}
use Rattle.graph_core.specs.Graphs.{operand_view}
use Rattle.currency_notes.specs.Notes.{IsHeld}
use Rattle.currency_notes.proofs.ReadNames.{each_of_name}
use Rattle.currency_notes.proofs.state.State.holds_operand.Goals as goal

pub returns-in-Name : goal.returns-in-Name
returns-in-Name c =
    each_of_name (λ y. IsHeld c.args.function.now.homes c.args.self.now y) c.in-Name.name.0 c.holds.result c.holds.ensures (operand_view c.args.operand) (ap operand_view (sym c.in-Name.is))
