use Rattle.std.proofs.Common.{◌≡◌, ◌∙◌, true, rules, sym, ap, subst, map, slice_get}
use Rattle.graph_core.specs.Graphs.{block_view, graph_view}
use Rattle.rv_emit_plan.specs.Plans.{held_at}
use Rattle.rv_emit_sequence.specs.Sequences.{ground_of, sequence_view, AreConstants, Holds}
use Rattle.rv_emit_sequence.proofs.PlannedBlocks.{one_put, seen_there}
use Rattle.rv_emit_sequence.proofs.sequence.Sequence.push_planned.Goals as goal

pub returns : goal.returns
returns c =
    let good : c.leads_well.result ≡ true = search rules in
    λ same well. one_put (ground_of c.args.storage.now) (graph_view c.args.graph.now).blocks (held_at c.args.plan.now) c.args.number c.args.next.0 c.held_at-known.result.now c.deref-2.result.now (block_view c.in-Some.block.now)
    c.in_ok-code.code.pieces.items (sequence_view c.args.self.now) (sequence_view c.push_block.new.self)
    c.held_at-known.ensures
    (ap (λ bs. slice_get (map block_view bs) c.args.number) (sym c.deref.ensures.value) ∙ seen_there block_view c.deref.result.now c.args.number c.in-Some.block.now c.in-Some.ensures.lookup.3.0 c.in-Some.ensures.lookup.1)
    (subst AreConstants (sym c.deref-2.ensures.value) (c.in_ok-loads.ensures well))
    (λ l to. subst (λ h. Holds h (held_at c.args.plan.now l)) (c.deref-3.ensures.value ∙ c.in_ok-code.ensures.held) (c.leads_well.ensures good l to))
    (c.in_ok-code.ensures.code)
    c.in_ok-push_block.ensures.grown
