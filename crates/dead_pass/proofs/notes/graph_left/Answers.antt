use Rattle.std.proofs.Common.{◌≡◌, List, ap, map, subst, sym, ◌∙◌}
use Rattle.graph_core.specs.declared.graph.MemoryObject.{MemoryObject}
use Rattle.graph_core.specs.Graphs.{Binding, Block, Graph, Scalar, binding_view, block_view, graph_view, scalar_view}
use Rattle.graph_paths.specs.PathMarksTable.{bits_of}
use Rattle.dead_pass_rule.specs.Asking.{is_going}
use Rattle.dead_pass_rule.specs.Removing.{IsReduced}
use Rattle.dead_pass_rule.specs.Walks.{turn_of}
use Rattle.dead_pass_notes.specs.Idle.{assignments_of, graph_of}
use Rattle.dead_pass_notes.specs.Said.{SaysWhatItShall}
use Rattle.dead_pass_notes.specs.Sources.{HasRoom}
use Rattle.dead_pass_notes.specs.RemovalNotesStale.{AreKnown}
use Rattle.dead_pass_writes.specs.RemovedChangesTelling.{AreToldOf}
use Rattle.dead_pass.specs.LeftBy.{AreLeftBlocksBy}
use Rattle.dead_pass.proofs.ByRule.{graph_reduced, graph_stays}
use Rattle.dead_pass.proofs.Placed.{graph_named, graph_placed}
use Rattle.dead_pass.proofs.Saying.{graph_same}
use Rattle.dead_pass.proofs.notes.graph_left.Goals as goal

pub returns-then-stays-clause-left : goal.returns-then-stays-clause-left
returns-then-stays-clause-left c =
    let idle = c.args.idle.now in
    subst (λ (g : Graph). IsReduced (assignments_of idle) (graph_of idle) g) (sym c.in_ok-same.ensures) (graph_stays (graph_of idle) (is_going (turn_of idle.turns.items)) c.requires.goes (bits_of idle.reached 0) c.requires.led (c.stays.ensures c.if-stays.true))

pub returns-then-stays-clause-notes : goal.returns-then-stays-clause-notes
returns-then-stays-clause-notes c = λ log u told valid.
    (let idle = c.args.idle.now in
    subst (λ (h : Graph). SaysWhatItShall (assignments_of idle) log (graph_of idle) h) (sym c.in_ok-same.ensures) (graph_same log idle c.requires (c.stays.ensures c.if-stays.true) (graph_placed u (graph_of idle) valid)))

pub returns-clause-notes : goal.returns-clause-notes
returns-clause-notes c = λ log u told valid.
    (let g = graph_of c.args.idle.now in
    let known : AreKnown c.args.idle.now c.in_ok-notes.notes = c.in_ok-notes.ensures.known in
    let room : HasRoom c.args.idle.now c.in_ok-notes.notes.ways = c.in_ok-notes.ensures.room in
    let removed : c.in_ok-notes.notes.removed.now ≡ c.args.removed.now = c.in_ok-notes.ensures.removed in
    let said = c.in_ok-blocks.ensures.said log (record {
      borne_out = c.requires;
      known = known;
      room = room;
      told = subst (λ r. AreToldOf log r) (sym removed) told;
      named = graph_named u g valid;
      placed = graph_placed u g valid;
    }) (ap (λ xs. map block_view xs) (sym c.deref.ensures.value)) in
    record { notes = said.notes })

pub returns-clause-left : goal.returns-clause-left
returns-clause-left c =
    let idle = c.args.idle.now in
    let g = idle.graph.now in
    let after : List Block = map block_view c.in_ok-blocks.blocks.items in
    let all = subst (λ xs. AreLeftBlocksBy (is_going (turn_of idle.turns.items)) (bits_of idle.reached 0) 0 (map block_view xs) after) c.deref.ensures.value c.in_ok-blocks.ensures.left in
    let made : List Binding → List Scalar → List MemoryObject → Graph =
    λ (bindings : List Binding) (scalars : List Scalar) (objects : List MemoryObject).
    record { entry = g.entry.0; parameters = bindings; scalars = scalars; objects = objects; name_count = g.name_count; first_moved = g.first_moved; blocks = after } in
    let one = ap (λ x. made (map binding_view x) (map scalar_view c.in_ok-from_slice-2.field-0.items) c.in_ok-from_slice-3.field-0.items) (c.in_ok-from_slice.ensures.items ∙ c.deref-2.ensures.value) in
    let two = ap (λ x. made (map binding_view g.parameters.items) (map scalar_view x) c.in_ok-from_slice-3.field-0.items) (c.in_ok-from_slice-2.ensures.items ∙ c.deref-3.ensures.value) in
    let three = ap (λ x. made (map binding_view g.parameters.items) (map scalar_view g.scalars.items) x) (c.in_ok-from_slice-3.ensures.items ∙ c.deref-4.ensures.value) in
    subst (λ (h : Graph). IsReduced (assignments_of idle) (graph_view g) h) (sym (one ∙ two ∙ three)) (graph_reduced (graph_view g) (is_going (turn_of idle.turns.items)) c.requires.goes (bits_of idle.reached 0) c.requires.led after all)
