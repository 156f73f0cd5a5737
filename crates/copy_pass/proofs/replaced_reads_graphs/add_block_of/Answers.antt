use Rattle.std.proofs.Common.{◌≡◌, List, length, map, ap, subst, arith}
use Rattle.std.proofs.lemmas.Bool.Decides.{nat_tests}
use Rattle.std.proofs.lemmas.List.{length-map}
use Rattle.std.proofs.lemmas.Result.{IfOk-weaker}
use Rattle.graph_core.specs.Graphs.{block_view, graph_view, instruction_view, scalar_view}
use Rattle.graph_core.specs.declared.graph.Scalar.{Scalar}
use Rattle.pass_law.specs.Changes.{Adds}
use Rattle.copy_pass.specs.Points.{IsReplacedIn}
use Rattle.copy_pass.proofs.OfBlocks.{block_step, gone, no_block, no_block_after, there, unlike}
use Rattle.copy_pass.proofs.replaced_reads_graphs.add_block_of.Goals as goal

pub returns-in_default : goal.returns-in_default
returns-in_default c =
    (let same = ap length c.deref.ensures.value in
    let past = c.in_default.ensures.lookup.3 in
    no_block (graph_view c.args.was.now) (graph_view c.args.is.now) c.args.number _ (gone block_view c.args.was.now.blocks.items c.args.number (omega (arith, same, past))))

pub returns-in_default-get : goal.returns-in_default-get
returns-in_default-get c =
    (let same = ap length c.deref-2.ensures.value in
    let past = c.in_default-get.ensures.lookup.3 in
    no_block_after (graph_view c.args.was.now) (graph_view c.args.is.now) c.args.number _ (gone block_view c.args.is.now.blocks.items c.args.number (omega (arith, same, past))))

pub returns-then-len : goal.returns-then-len
returns-then-len c =
    (let b = c.in-Some.before.now in
    let d = c.in-Some-get.after.now in
    unlike (graph_view c.args.was.now) (graph_view c.args.is.now) c.args.number (block_view b) (block_view d)
    (there block_view c.deref.result.now c.args.was.now.blocks.items c.args.number b c.deref.ensures.value c.in-Some.ensures.lookup.3.0 c.in-Some.ensures.lookup.1)
    (there block_view c.deref-2.result.now c.args.is.now.blocks.items c.args.number d c.deref-2.ensures.value c.in-Some-get.ensures.lookup.3.0 c.in-Some-get.ensures.lookup.1) _
    (λ e. (let one = length-map b.instructions.items instruction_view in let other = length-map d.instructions.items instruction_view in grind (arith, nat_tests, e, one, other))))

pub returns : goal.returns
returns c =
    let b = c.in-Some.before.now in
    let d = c.in-Some-get.after.now in
    let one = length-map b.instructions.items instruction_view in
    let other = length-map d.instructions.items instruction_view in
    let alike : length (map instruction_view d.instructions.items) ≡ length (map instruction_view b.instructions.items) = grind (arith, nat_tests, one, other) in
    IfOk-weaker c.add_block.result (λ whole. Adds (IsReplacedIn (map scalar_view c.deref-3.result.now) c.args.number (block_view b) (block_view d)) c.args.cases.now.items c.add_block.new.cases.items) _
    (λ whole adds.
    block_step (graph_view c.args.was.now) (graph_view c.args.is.now) c.args.number (block_view b) (block_view d)
    (there block_view c.deref.result.now c.args.was.now.blocks.items c.args.number b c.deref.ensures.value c.in-Some.ensures.lookup.3.0 c.in-Some.ensures.lookup.1)
    (there block_view c.deref-2.result.now c.args.is.now.blocks.items c.args.number d c.deref-2.ensures.value c.in-Some-get.ensures.lookup.3.0 c.in-Some-get.ensures.lookup.1) _ _ alike
    (subst (λ (ss : List Scalar). Adds (IsReplacedIn (map scalar_view ss) c.args.number (block_view b) (block_view d)) c.args.cases.now.items c.add_block.new.cases.items) c.deref-3.ensures.value adds)) c.add_block.ensures
