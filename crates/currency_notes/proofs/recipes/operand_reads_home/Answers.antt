use Rattle.std.proofs.Common.{Some, ap, sym}
use Rattle.graph_core.specs.Graphs.{Operand, Of, operand_view}
use Rattle.currency_notes.proofs.ReadNames.{unread_own}
use Rattle.currency_notes.proofs.recipes.operand_reads_home.Goals as goal

pub returns-in-Name : goal.returns-in-Name
returns-in-Name c =
    unread_own c.args.homes.now c.in-Name.read.0 c.args.name c.have_one.result c.have_one.ensures.0 c.have_one.ensures.1 (Of (operand_view c.args.operand)) (ap (λ (o : Operand). Some (Of o)) (ap operand_view (sym c.in-Name.is)))
