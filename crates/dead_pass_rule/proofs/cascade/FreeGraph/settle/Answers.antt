use Rattle.std.proofs.Common.{true≢false}
use Rattle.graph_paths.specs.PathMarksTable.{bits_of}
use Rattle.dead_pass_rule.specs.Cascading.{assignments_of, graph_of}
use Rattle.dead_pass_rule.specs.Walks.{turn_of}
use Rattle.dead_pass_rule.proofs.Certificate.{are_idle}
use Rattle.dead_pass_rule.proofs.Passing.{falls}
use Rattle.dead_pass_rule.proofs.cascade.FreeGraph.settle.Goals as goal

pub loop-is_less-init : goal.loop-is_less-init
loop-is_less-init c = record {
  rows = c.requires.rows;
  goes = c.requires.goes;
  stays = λ q. absurd (true≢false q);
}

pub pass-requires : goal.pass-requires
pass-requires c = record { told = c.requires.told; rows = c.loop-is_less.invariant.rows; goes = c.loop-is_less.invariant.goes }

pub loop-is_less-preserved : goal.loop-is_less-preserved
loop-is_less-preserved c = record {
  rows = c.in_ok-is_less.ensures.rows;
  goes = c.in_ok-is_less.ensures.goes;
  stays = c.in_ok-is_less.ensures.stays;
}

pub loop-is_less-smaller : goal.loop-is_less-smaller
loop-is_less-smaller c =
    falls c.loop-is_less.turns c.pass.new.turns c.loop-is_less.is_less c.in_ok-is_less.is_less c.loop-is_less-test.true c.in_ok-is_less.ensures.fewer c.in_ok-is_less.ensures.same

pub returns : goal.returns
returns c =
    let f = c.args.self.now in
    are_idle (assignments_of f) (graph_of f) (turn_of c.loop-is_less.turns) (graph_of f).name_count (bits_of f.reached.now 0) c.requires.told.led (c.loop-is_less.invariant.stays c.loop-is_less-test.false) c.loop-is_less.invariant.goes
