use Rattle.std.proofs.Common.{◌≡◌, List, length, ap, ◌∙◌, arith}
use Rattle.std.proofs.lemmas.List.{length-map}
use Rattle.graph_core.specs.Graphs.{Block, block_view}
use Rattle.graph_paths.specs.PathMarksTable.{bits_of}
use Rattle.graph_paths.proofs.Flooding.{at_first, all_closed, step_on, tables_on, falls}
use Rattle.graph_paths.proofs.flood.settle.Goals as goal

pub loop-is_new-init : goal.loop-is_new-init
loop-is_new-init g c =
    let course = g.T.Transfer.course c.args.transfer.now in
    let size : length course.blocks ≡ length c.args.blocks.now = ap (λ (all : List Block). length all) c.requires.blocks ∙ length-map c.args.blocks.now block_view in
    let made = c.in_ok-make_all.ensures in
    let step = step_on course c.args.comes.now c.make_all.new.leaves c.round.new.comes c.round.new.leaves c.whole_round.new.comes c.whole_round.new.leaves _ _
    c.in_ok-round.ensures.step c.in_ok-is_new.ensures.step in
    record {
      tables = tables_on course c.args.comes.now c.make_all.new.leaves c.whole_round.new.comes c.whole_round.new.leaves _ made.tables step;
      brought = step.keeps (bits_of c.args.comes.now)
          (at_first course (bits_of c.args.comes.now) (bits_of c.make_all.new.leaves) (λ n fact p q. made.made n fact (omega (arith, p, size, c.requires.few)) q));
      closed = c.in_ok-is_new.ensures.closed;
      comes_count = step.comes_count;
      leaves_count = step.leaves_count ∙ made.same_count;
      spare_comes = λ row bit out. step.spare_comes row bit (omega (arith, out, size));
      spare_leaves = λ row bit out. step.spare_leaves row bit (omega (arith, out, size)) ∙ made.spare row bit (omega (arith, out, c.requires.few));
    }

pub returns-clause-settled : goal.returns-clause-settled
returns-clause-settled g c =
    let course = g.T.Transfer.course c.args.transfer.now in
    let size : length course.blocks ≡ length c.args.blocks.now = ap (λ (all : List Block). length all) c.requires.blocks ∙ length-map c.args.blocks.now block_view in
    record {
      brought = c.loop-is_new.invariant.brought;
      closed = all_closed course.forward course.blocks course.is_open (bits_of c.loop-is_new.comes) (bits_of c.loop-is_new.leaves)
          (λ k lt to edge. c.loop-is_new.invariant.closed c.loop-is_new-test.false k (omega (arith, lt, size)) to edge);
    }

pub loop-is_new-preserved : goal.loop-is_new-preserved
loop-is_new-preserved g c =
    let course = g.T.Transfer.course c.args.transfer.now in
    let size : length course.blocks ≡ length c.args.blocks.now = ap (λ (all : List Block). length all) c.requires.blocks ∙ length-map c.args.blocks.now block_view in
    let before = c.loop-is_new in
    let was = before.invariant in
    let far = c.in_ok-rounds.ensures in
    let step = step_on course before.comes before.leaves c.rounds.new.comes c.rounds.new.leaves c.whole_round-in-loop-is_new.new.comes c.whole_round-in-loop-is_new.new.leaves _ _
    far.step c.in_ok-is_new-2.ensures.step in
    record {
      tables = tables_on course before.comes before.leaves c.whole_round-in-loop-is_new.new.comes c.whole_round-in-loop-is_new.new.leaves _ was.tables step;
      brought = step.keeps (bits_of c.args.comes.now) was.brought;
      closed = c.in_ok-is_new-2.ensures.closed;
      comes_count = step.comes_count ∙ was.comes_count;
      leaves_count = step.leaves_count ∙ was.leaves_count;
      spare_comes = λ row bit out. step.spare_comes row bit (omega (arith, out, size)) ∙ was.spare_comes row bit out;
      spare_leaves = λ row bit out. step.spare_leaves row bit (omega (arith, out, size)) ∙ was.spare_leaves row bit out;
    }

pub loop-is_new-smaller : goal.loop-is_new-smaller
loop-is_new-smaller g c =
    let course = g.T.Transfer.course c.args.transfer.now in
    let before = c.loop-is_new in
    falls course before.comes before.leaves c.rounds.new.comes c.rounds.new.leaves c.whole_round-in-loop-is_new.new.comes c.whole_round-in-loop-is_new.new.leaves _ _
    c.in_ok-rounds.ensures.step c.in_ok-is_new-2.ensures.step before.is_new c.loop-is_new-test.true
