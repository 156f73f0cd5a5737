use Rattle.std.proofs.Common.{arith, map, subst, sym}
use Rattle.std.proofs.lemmas.List.{length-map}
use Rattle.graph_core.specs.Graphs.{graph_view}
use Rattle.pass_law.proofs.OfFunctions.{AreCasesBelow, cases_first, cases_last, cases_next}
use Rattle.copy_pass.specs.Reads.{IsReplacedRead}
use Rattle.copy_pass.proofs.replaced_reads_graphs.replaced_reads.Goals as goal

pub loop-number-init : goal.loop-number-init
loop-number-init c = subst (AreCasesBelow IsReplacedRead (map graph_view c.args.was.now) (map graph_view c.args.is.now) 0) (sym c.new-cases.ensures.items) (cases_first IsReplacedRead (map graph_view c.args.was.now) (map graph_view c.args.is.now))

pub loop-number-preserved : goal.loop-number-preserved
loop-number-preserved c =
    cases_next IsReplacedRead (map graph_view c.args.was.now) (map graph_view c.args.is.now) c.loop-number.number _ _ c.loop-number.invariant c.in_ok-add_function.ensures

pub returns : goal.returns
returns c = cases_last IsReplacedRead (map graph_view c.args.was.now) (map graph_view c.args.is.now) c.loop-number.number _ (let long = length-map c.args.was.now graph_view in omega (arith, long)) c.loop-number.invariant
