use Rattle.std.proofs.Common.{◌+◌, ◌∙◌, List, arith, map, subst, take}
use Rattle.graph_core.specs.declared.block.Block as declared-block
use Rattle.graph_core.specs.Graphs.{instruction_view}
use Rattle.graph_core.specs.Paths.{Among}
use Rattle.currency_notes.specs.Numbers.{AreNotesRead}
use Rattle.currency_notes.proofs.Lists.{each_all, each_more}
use Rattle.currency_notes.proofs.Numbering.{notes_on, numbered_all}
use Rattle.currency_notes.proofs.homes.Homes.new.Goals as goal

pub loop-block-preserved : goal.loop-block-preserved
loop-block-preserved c =
    let old = c.loop-block.made in
    let new = c.add_block.new.self in
    let i = c.loop-block.block-index in
    let res = c.deref-block-items.result.now in
    let same = c.deref-block-items.ensures.value in
    let inv = c.loop-block.invariant in
    let said = c.in_ok-add_block.ensures in
    record {
      homes = said.more.homes ∙ inv.homes;
      count = said.more.count ∙ inv.count;
      orderly = said.more.orderly inv.orderly;
      read = λ b. subst (λ (bs : List declared-block.Block). Among b (take (i + 1) bs) → AreNotesRead new (map instruction_view b.instructions.items)) same
          (each_more (λ (d : declared-block.Block). AreNotesRead new (map instruction_view d.instructions.items)) res i c.block-item.result c.loop-block-test.true c.block-item.is
          (λ d there. notes_on old new said.more (map instruction_view d.instructions.items) (inv.read d (subst (λ (bs : List declared-block.Block). Among d (take i bs)) same there))) (said.read inv.orderly) b);
    }

pub returns-clause-numbered : goal.returns-clause-numbered
returns-clause-numbered c =
    (let blocks = c.args.graph.now.blocks.items in
    numbered_all c.loop-block.made c.args.graph.now c.loop-block.invariant.orderly
    (each_all (λ (d : declared-block.Block). AreNotesRead c.loop-block.made (map instruction_view d.instructions.items)) blocks c.loop-block.block-index (omega arith) c.loop-block.invariant.read))
