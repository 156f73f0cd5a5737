use Rattle.std.proofs.Common.{◌≡◌, ◌<◌, List, arith, get_or, length, subst}
use Rattle.currency_notes.proofs.Lists.{each_all, each_more}
use Rattle.graph_core.specs.Paths.{Among}
use Rattle.graph_core.specs.declared.graph.Graph as declared-graph
use Rattle.graph_core.specs.declared.graph.Scalar as declared-scalar
use Rattle.currency.proofs.Variables.{all_below, none_below}
use Rattle.currency.proofs.rows.variable_count.Goals as goal

pub loop-graph-init : goal.loop-graph-init
loop-graph-init c = none_below c.args.homed.now.unit.graphs.items 0

pub loop-graph-preserved : goal.loop-graph-preserved
loop-graph-preserved c =
    let all = c.args.homed.now.unit.graphs.items in
    let k = c.loop-graph.graph-index in
    let g = c.graph-item.result in
    let count = c.above_scalars-count.result in
    let said = c.above_scalars-count.ensures in
    let least = said.least in
    let lt : k < length all = subst (λ xs. k < length xs) c.deref-graph-items.ensures.value c.loop-graph-test.true in
    let is : g ≡ get_or all k g = subst (λ xs. g ≡ get_or xs k g) c.deref-graph-items.ensures.value c.graph-item.is in
    each_more (λ (z : declared-graph.Graph). (s : declared-scalar.Scalar) → Among s z.scalars.items → s.var.0 < count) all k g lt is
    (λ z among s there. (let low = c.loop-graph.invariant z among s there in omega (arith, low, least))) (subst (λ (l : List declared-scalar.Scalar). (s : declared-scalar.Scalar) → Among s l → s.var.0 < count) c.deref.ensures.value said.above)

pub returns : goal.returns
returns c =
    all_below c.args.homed.now c.loop-graph.count
    (each_all (λ (z : declared-graph.Graph). (s : declared-scalar.Scalar) → Among s z.scalars.items → s.var.0 < c.loop-graph.count) c.args.homed.now.unit.graphs.items c.loop-graph.graph-index (omega arith) c.loop-graph.invariant)
