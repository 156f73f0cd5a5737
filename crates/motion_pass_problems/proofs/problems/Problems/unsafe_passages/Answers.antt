use Rattle.std.proofs.Common.{subst, arith}
use Rattle.std.proofs.lemmas.List.{length-map}
use Rattle.graph_core.specs.Graphs.{block_view}
use Rattle.motion_pass_problems.specs.Flowing.{no_passage}
use Rattle.motion_pass_problems.specs.Problems.{IsUnsafePassage, local_of}
use Rattle.motion_pass_problems.proofs.Pushed.{count_on, each_on}
use Rattle.motion_pass_problems.proofs.problems.Problems.unsafe_passages.Goals as goal

pub loop-number-preserved : goal.loop-number-preserved
loop-number-preserved c =
    let out = c.loop-number.passages.items in
    let number = c.loop-number.number in
    record {
      count = count_on out _ c.unsafe_passage-passage.result number c.in_ok-push.ensures.items c.loop-number.invariant.count;
      each = each_on (λ n passage. IsUnsafePassage (local_of c.args.self.now.locals.now n) passage) out _ c.unsafe_passage-passage.result no_passage number c.in_ok-push.ensures.items c.loop-number.invariant.count
          (subst (λ x. IsUnsafePassage x c.unsafe_passage-passage.result) c.local_at-local.ensures c.unsafe_passage-passage.ensures) c.loop-number.invariant.each;
    }

pub returns : goal.returns
returns c =
    let count = length-map c.args.self.now.blocks.now block_view in
    record {
      size = omega (arith, c.loop-number.invariant.count, c.loop-number-test.false, c.loop-number.auto.number-end, count);
      each = λ n lt. c.loop-number.invariant.each n (omega (arith, lt, c.loop-number-test.false, count));
    }
