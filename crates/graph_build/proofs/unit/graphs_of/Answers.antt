use Rattle.std.proofs.Common.{◌<◌, length, map, arith}
use Rattle.c_tree.specs.Programs.{function_view, program_view}
use Rattle.graph_build.specs.Units.{graphs_from}
use Rattle.graph_build.proofs.Graphs.{graphs_on}
use Rattle.graph_build.proofs.unit.graphs_of.Goals as goal

pub loop-number-preserved : goal.loop-number-preserved
loop-number-preserved c =
    let p = program_view c.args.source.now.program.now in
    let all = c.args.source.now.program.now.functions.items in
    let items = c.deref-function-items.result.now in
    let inside : c.loop-number.number < length items = omega (arith, c.loop-number-test.true) in
    graphs_on p items all c.loop-number.number c.function-item.result c.loop-number.graphs.items c.push.new.self.items c.in_ok-graph_of.field-0 (graphs_from p 0 (map function_view all)) c.deref-function-items.ensures.value inside c.function-item.is
    c.in_ok-push.ensures.items c.in_ok-graph_of.ensures c.loop-number.invariant
