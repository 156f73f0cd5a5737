use Rattle.std.proofs.Common.{◌≡◌, true, sym, subst}
use Rattle.std.specs.Prelude.{◌↔◌}
use Rattle.graph_core.specs.Graphs.{Of, operand_view}
use Rattle.graph_paths.specs.PathMarksTable.{bits_of}
use Rattle.dead_pass_notes.specs.Lost.{HasStale}
use Rattle.dead_pass_notes.proofs.Lost.{stale_name}
use Rattle.dead_pass_notes.proofs.notes.is_stale.Goals as goal

pub returns-in-Name : goal.returns-in-Name
returns-in-Name c =
    let told = bits_of c.args.stale.now c.args.row in
    subst (λ o. (c.get.result ≡ true) ↔ HasStale told (Of (operand_view o))) (sym c.in-Name.is) (stale_name told c.in-Name.name.0 c.get.result c.get.ensures)
