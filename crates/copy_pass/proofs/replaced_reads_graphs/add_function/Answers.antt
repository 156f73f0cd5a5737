use Rattle.std.proofs.Common.{map, refl}
use Rattle.std.proofs.lemmas.Result.{IfOk-weaker}
use Rattle.graph_core.specs.Graphs.{graph_view}
use Rattle.pass_law.specs.Changes.{Adds}
use Rattle.pass_law.proofs.OfFunctions.{function_gone, function_gone_after, function_step}
use Rattle.copy_pass.specs.Reads.{IsReplacedRead}
use Rattle.copy_pass.proofs.OfBlocks.{gone, there}
use Rattle.copy_pass.proofs.replaced_reads_graphs.add_function.Goals as goal

pub returns-in_default : goal.returns-in_default
returns-in_default c =
    function_gone IsReplacedRead (map graph_view c.args.was.now) (map graph_view c.args.is.now) c.args.number _ (gone graph_view c.args.was.now c.args.number c.in_default.ensures.lookup.3)

pub returns-in_default-get : goal.returns-in_default-get
returns-in_default-get c =
    function_gone_after IsReplacedRead (map graph_view c.args.was.now) (map graph_view c.args.is.now) c.args.number _ (gone graph_view c.args.is.now c.args.number c.in_default-get.ensures.lookup.3)

pub returns : goal.returns
returns c =
    let g = c.in-Some.before.now in
    let h = c.in-Some-get.after.now in
    IfOk-weaker c.add_graph.result (λ whole. Adds (IsReplacedRead (graph_view g) (graph_view h)) c.args.cases.now.items c.add_graph.new.cases.items) _
    (λ whole adds.
    function_step IsReplacedRead (map graph_view c.args.was.now) (map graph_view c.args.is.now) c.args.number (graph_view g) (graph_view h) _ _
    (there graph_view c.args.was.now c.args.was.now c.args.number g refl c.in-Some.ensures.lookup.3.0 c.in-Some.ensures.lookup.1)
    (there graph_view c.args.is.now c.args.is.now c.args.number h refl c.in-Some-get.ensures.lookup.3.0 c.in-Some-get.ensures.lookup.1) adds) c.add_graph.ensures
