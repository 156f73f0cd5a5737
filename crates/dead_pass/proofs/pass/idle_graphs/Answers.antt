use Rattle.std.proofs.Common.{◌≡◌, ◌+◌, ◌<◌, ◌^◌, Some, length, map, refl, arith}
use Rattle.std.specs.Prelude.{slice_get}
use Rattle.std.proofs.lemmas.List.{length-map}
use Rattle.graph_core.specs.Graphs.{Graph, block_view, graph_view}
use Rattle.dead_pass_rule.specs.Free.{AreNamed}
use Rattle.base_laws.proofs.Lists.{all_there, there}
use Rattle.dead_pass.proofs.pass.idle_graphs.Goals as goal

pub new-requires-clause-few : goal.new-requires-clause-few
new-requires-clause-few c =
    let xs = c.args.graphs.now in
    let k = c.loop-graph.graph-index in
    let one = c.graph-item.result in
    let at : slice_get (map graph_view xs) k ≡ Some (graph_view one) = there graph_view xs xs k one refl c.loop-graph-test.true c.graph-item.is in
    let few = all_there (λ (g : Graph). length g.blocks + 2 < 2 ^ 32) (map graph_view xs) k (graph_view one) c.requires.few at in
    let size = length-map one.blocks.items block_view in
    omega (arith, few, size)

pub new-requires-clause-named : goal.new-requires-clause-named
new-requires-clause-named c =
    let xs = c.args.graphs.now in
    let k = c.loop-graph.graph-index in
    let one = c.graph-item.result in
    let at : slice_get (map graph_view xs) k ≡ Some (graph_view one) = there graph_view xs xs k one refl c.loop-graph-test.true c.graph-item.is in
    all_there (λ (g : Graph). AreNamed g.blocks g.name_count) (map graph_view xs) k (graph_view one) c.requires.named at
