use Rattle.graph_paths.proofs.Flooding.{further_none, further_on, tables_on, falls_once}
use Rattle.graph_paths.proofs.flood.rounds.Goals as goal

pub loop-is_new-init : goal.loop-is_new-init
loop-is_new-init g c = record {
  tables = c.requires.tables;
  further = further_none (g.T.Transfer.course c.args.transfer.now) c.args.comes.now c.args.leaves.now;
}

pub loop-is_new-preserved : goal.loop-is_new-preserved
loop-is_new-preserved g c =
    let course = g.T.Transfer.course c.args.transfer.now in
    let before = c.loop-is_new in
    record {
      tables = tables_on course before.comes before.leaves c.round.new.comes c.round.new.leaves _ before.invariant.tables c.in_ok-is_new.ensures.step;
      further = further_on course c.args.comes.now c.args.leaves.now before.comes before.leaves c.round.new.comes c.round.new.leaves _ before.invariant.further c.in_ok-is_new.ensures.step;
    }

pub loop-is_new-smaller : goal.loop-is_new-smaller
loop-is_new-smaller g c =
    let course = g.T.Transfer.course c.args.transfer.now in
    let before = c.loop-is_new in
    falls_once course before.comes before.leaves c.round.new.comes c.round.new.leaves _ c.in_ok-is_new.ensures.step before.is_new c.loop-is_new-test.true
