use Rattle.std.proofs.Common.{◌≡◌, ◌≤◌, ◌-◌, length, map, take, drop, true, false, arith}
use Rattle.std.specs.Prelude.{List, [], ◌∷◌}
use Rattle.std.proofs.lemmas.List.{length-append, take_all}
use Rattle.graph_core.specs.declared.graph.Graph as declared-graph
use Rattle.graph_core.specs.Graphs.{graph_view, unit_view}
use Rattle.graph_core.specs.Validity.{IsGraph, markers_of, markers_of_blocks}
use Rattle.graph_core.proofs.Lists.{first_and_rest}
use Rattle.graph_core.proofs.validity.are_graphs.Goals as goal

fewer : (all : List declared-graph.Graph) → 1 ≤ length all → length (markers_of (map graph_view (take (length all - 1) (drop 1 all)))) ≤ length (markers_of (map graph_view all))
fewer [] some = absurd (omega (arith, some))
fewer (g ∷ all) some =
    rw (take_all (length (g ∷ all) - 1) all (omega arith)) (omega (arith, length-append (markers_of_blocks (graph_view g).blocks) (markers_of (map graph_view all))))

pub returns-then-not-is_graph : goal.returns-then-not-is_graph
returns-then-not-is_graph c =
    let u = unit_view c.args.unit.now in
    let both = first_and_rest (IsGraph u) graph_view c.loop-left.left.now c.graph-item.result c.in-len1-up.len_at_least c.graph-item.is in
    (λ (t : false ≡ true). cc, λ all. let h = c.is_graph.ensures.1 (both.0 (c.loop-left.invariant.0.1 all)).0 in (cc))

pub loop-left-preserved : goal.loop-left-preserved
loop-left-preserved c =
    let u = unit_view c.args.unit.now in
    let left = c.loop-left.left.now in
    let both = first_and_rest (IsGraph u) graph_view left c.graph-item.result c.in-len1-up.len_at_least c.graph-item.is in
    let good = c.is_graph.ensures.0 c.if-not-is_graph.false in
    ((λ h. c.loop-left.invariant.0.0 (both.1 (good, h)), λ all. (both.0 (c.loop-left.invariant.0.1 all)).1), omega (arith, c.loop-left.invariant.1, fewer left c.in-len1-up.len_at_least))
