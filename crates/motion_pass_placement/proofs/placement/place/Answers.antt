use Rattle.std.proofs.Common.{ℕ, ◌<◌, ◌≤◌, ◌^◌, Bool, false, List, ap, arith, length, map, subst, sym}
use Rattle.std.specs.Prelude.{slice_index_or}
use Rattle.std.proofs.lemmas.List.{length-map}
use Rattle.graph_core.specs.Bounds.{most_instructions_of_function}
use Rattle.graph_core.specs.declared.block.Block as declared-block
use Rattle.graph_core.specs.Graphs.{block_view, graph_view}
use Rattle.motion_pass_points.specs.Named.{counted_in}
use Rattle.motion_pass_points.specs.Numbers.{AreOnce, computed_in, views_of}
use Rattle.motion_pass_problems.specs.Flowing.{HasEdge}
use Rattle.motion_pass_problems.specs.Facts.{AreReached}
use Rattle.motion_pass_placement.specs.Placed.{IsPlaced}
use Rattle.motion_pass_placement.proofs.Bounds.{few_blocks}
use Rattle.motion_pass_placement.proofs.Entered.{come_edge, edge_come}
use Rattle.motion_pass_placement.proofs.placement.place.Goals as goal

pub placed-requires-clause-reached : goal.placed-requires-clause-reached
placed-requires-clause-reached c =
    subst (λ (bs : List declared-block.Block). AreReached (map block_view bs) (λ n. slice_index_or c.in_ok-reached.reached.items n false)) c.deref-2.ensures.value
    c.in_ok-reached.ensures

pub placed-requires-clause-once : goal.placed-requires-clause-once
placed-requires-clause-once c =
    subst (λ (rs : List Bool). (m : ℕ) → HasEdge (map block_view c.args.graph.now.blocks.items) (λ n. slice_index_or rs n false) m 0 → ⊥) c.deref-4.ensures.value
    (subst (λ (bs : List declared-block.Block). (m : ℕ) → HasEdge (map block_view bs) (λ n. slice_index_or c.deref-4.result.now n false) m 0 → ⊥) c.deref-3.ensures.value (c.comes_back-back.ensures.never c.if-back.false))

pub placed-requires-clause-order : goal.placed-requires-clause-order
placed-requires-clause-order c =
    subst (λ (rs : List Bool). AreOnce (computed_in (λ n. slice_index_or rs n false) 0 (map block_view c.args.graph.now.blocks.items)) (views_of c.in_ok-computations.computations)) c.deref-6.ensures.value
    (subst (λ (bs : List declared-block.Block). AreOnce (computed_in (λ n. slice_index_or c.deref-6.result.now n false) 0 (map block_view bs)) (views_of c.in_ok-computations.computations)) c.deref-5.ensures.value c.in_ok-computations.ensures.once)

pub reached_flags-requires : goal.reached_flags-requires
reached_flags-requires c =
    let few : length (map block_view c.args.graph.now.blocks.items) < 2 ^ 32 = few_blocks (graph_view c.args.graph.now) c.requires in
    let long = length-map c.args.graph.now.blocks.items block_view in
    let same = ap (λ (bs : List declared-block.Block). length bs) c.deref-2.ensures.value in
    record { few = omega (arith, few, long, same) }

pub new-requires : goal.new-requires
new-requires c = subst (λ (bs : List declared-block.Block). counted_in (map block_view bs) ≤ most_instructions_of_function) (sym c.deref-5.ensures.value) c.requires.instructions

pub returns-then-back : goal.returns-then-back
returns-then-back c =
    let reached = subst (λ (bs : List declared-block.Block). AreReached (map block_view bs) (λ n. slice_index_or c.in_ok-reached.reached.items n false)) c.deref-2.ensures.value
    c.in_ok-reached.ensures in
    let edge = subst (λ (rs : List Bool). (m : ℕ) × HasEdge (map block_view c.args.graph.now.blocks.items) (λ n. slice_index_or rs n false) m 0) c.deref-4.ensures.value
    (subst (λ (bs : List declared-block.Block). (m : ℕ) × HasEdge (map block_view bs) (λ n. slice_index_or c.deref-4.result.now n false) m 0) c.deref-3.ensures.value (c.comes_back-back.ensures.comes c.if-back.true)) in
    (edge.0, edge_come (map block_view c.args.graph.now.blocks.items) (λ n. slice_index_or c.in_ok-reached.reached.items n false) reached edge.0 0 edge.1)

pub returns : goal.returns
returns c =
    let made : IsPlaced (graph_view c.args.graph.now) c.in_ok-placement.placement = c.in_ok-placement.ensures in
    let never = subst (λ (rs : List Bool). (m : ℕ) → HasEdge (map block_view c.args.graph.now.blocks.items) (λ n. slice_index_or rs n false) m 0 → ⊥) c.deref-4.ensures.value
    (subst (λ (bs : List declared-block.Block). (m : ℕ) → HasEdge (map block_view bs) (λ n. slice_index_or c.deref-4.result.now n false) m 0 → ⊥) c.deref-3.ensures.value (c.comes_back-back.ensures.never c.if-back.false)) in
    let reached = subst (λ (bs : List declared-block.Block). AreReached (map block_view bs) (λ n. slice_index_or c.in_ok-reached.reached.items n false)) c.deref-2.ensures.value
    c.in_ok-reached.ensures in
    (made, λ again. never again.0 (come_edge (map block_view c.args.graph.now.blocks.items) (λ n. slice_index_or c.in_ok-reached.reached.items n false) reached again.0 0 again.1))
