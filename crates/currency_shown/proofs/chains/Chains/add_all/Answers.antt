use Rattle.std.proofs.Common.{◌<◌, ℕ, arith}
use Rattle.graph_core.specs.declared.block.Block as declared-block
use Rattle.graph_core.specs.Graphs.{end_view}
use Rattle.graph_core.specs.Paths.{Among}
use Rattle.graph_core.specs.Uses.{targets_of}
use Rattle.currency_notes.proofs.Lists.{at_all, at_more}
use Rattle.currency_shown.specs.Chains.{StartsIf}
use Rattle.currency_shown.proofs.chains.Chains.add_all.Goals as goal

pub loop-block-preserved : goal.loop-block-preserved
loop-block-preserved c =
    let blocks = c.args.blocks.now in
    let links = c.args.links.now in
    let new = c.add_targets.new.self in
    let said = c.in_ok-add_targets.ensures in
    let inv = c.loop-block.invariant in
    record {
      begun = said.begun;
      kept = λ l s. said.kept l (inv.kept l s);
      starts = at_more (λ n (b : declared-block.Block). (l : ℕ) → Among l (targets_of (end_view b.end)) → StartsIf blocks links new l) blocks c.loop-block.block-index c.block-item.result c.loop-block-test.true c.block-item.is said.starts
          (λ n b lt at l among small none. said.kept l (inv.starts n b lt at l among small none));
    }

pub returns-clause-starts : goal.returns-clause-starts
returns-clause-starts c =
    at_all (λ n (b : declared-block.Block). (l : ℕ) → Among l (targets_of (end_view b.end)) → StartsIf c.args.blocks.now c.args.links.now c.loop-block.self l) c.args.blocks.now c.loop-block.block-index (omega arith) c.loop-block.invariant.starts
