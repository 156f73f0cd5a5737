use Rattle.std.proofs.Common.{subst, arith}
use Rattle.std.specs.Prelude.{slice_index_or}
use Rattle.std.proofs.lemmas.List.{length-map}
use Rattle.graph_core.specs.Graphs.{block_view}
use Rattle.motion_pass_problems.specs.Flowing.{no_passage}
use Rattle.motion_pass_problems.specs.Problems.{IsUnhadPassage, local_of}
use Rattle.motion_pass_problems.proofs.Pushed.{count_on, each_on}
use Rattle.motion_pass_problems.proofs.problems.Problems.unhad_passages.Goals as goal

pub loop-number-preserved : goal.loop-number-preserved
loop-number-preserved c =
    let out = c.loop-number.passages.items in
    let number = c.loop-number.number in
    record {
      count = count_on out _ c.unhad_passage-passage.result number c.in_ok-push.ensures.items c.loop-number.invariant.count;
      each = each_on (λ n passage. IsUnhadPassage (local_of c.args.self.now.locals.now n) (slice_index_or c.args.unsafe_ends.now n 0) passage) out _ c.unhad_passage-passage.result no_passage number c.in_ok-push.ensures.items c.loop-number.invariant.count
          (subst (λ x. IsUnhadPassage x (slice_index_or c.args.unsafe_ends.now number 0) c.unhad_passage-passage.result) c.local_at-local.ensures (subst (λ w. IsUnhadPassage c.local_at-local.result w c.unhad_passage-passage.result) c.word_of-unsafe_end.ensures c.unhad_passage-passage.ensures)) c.loop-number.invariant.each;
    }

pub returns : goal.returns
returns c =
    let count = length-map c.args.self.now.blocks.now block_view in
    record {
      size = omega (arith, c.loop-number.invariant.count, c.loop-number-test.false, c.loop-number.auto.number-end, count);
      each = λ n lt. c.loop-number.invariant.each n (omega (arith, lt, c.loop-number-test.false, count));
    }
