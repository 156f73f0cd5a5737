use Rattle.graph_core.specs.Graphs.{note_view}
use Rattle.dead_pass.specs.LeftBy.{notes}
use Rattle.dead_pass.proofs.Noting.{known_here, says}
use Rattle.dead_pass.proofs.notes.left_note.Goals as goal

pub returns-clause-note : goal.returns-clause-note
returns-clause-note c = notes

pub returns-clause-said : goal.returns-clause-said
returns-clause-said c = λ log b before rest ready here.
    (let idle = c.args.idle.now in
    let old = c.args.notes.now in
    let x = c.args.of.0 in
    let v = note_view c.args.value.now in
    says log idle old c.args.note b before x v rest ready here (note_view c.in_ok-value.value)
    (c.in_ok-value.ensures.said log ready.told ready.known (known_here log idle old c.args.note b before x v rest ready here) ready.room))
