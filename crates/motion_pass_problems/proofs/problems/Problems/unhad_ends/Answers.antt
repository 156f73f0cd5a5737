use Rattle.std.proofs.Common.{ℕ, List, true, subst, arith}
use Rattle.std.proofs.lemmas.List.{length-map}
use Rattle.graph_core.specs.Graphs.{block_view}
use Rattle.motion_pass_problems.specs.declared.flow.Passage.{Passage}
use Rattle.motion_pass_problems.specs.Problems.{AreBroughtBy, AreLeaving}
use Rattle.motion_pass_problems.specs.MotionProblemsProblems.{blocks_of, reached_of}
use Rattle.motion_pass_problems.proofs.Posed.{unhad_told}
use Rattle.motion_pass_problems.proofs.problems.Problems.unhad_ends.Goals as goal

pub returns : goal.returns
returns c =
    let s = c.args.self.now in
    let passages = c.in_ok-passages.passages.items in
    let begins = c.in_ok-begins.begins.items in
    let starts = c.in_ok-starts.starts.items in
    let ends = c.in_ok-ends.ends.items in
    let count = length-map s.blocks.now block_view in
    unhad_told (blocks_of s) (reached_of s) s.locals.now c.args.unsafe_ends.now passages begins starts ends c.requires.open c.in_ok-passages.ensures (λ k lt. c.in_ok-begins.ensures.first k (omega (arith, lt, count))) c.in_ok-begins.ensures.only
    (subst (λ (xs : List ℕ). AreBroughtBy (blocks_of s) (reached_of s) true passages xs starts) c.deref-2.ensures.value
    (subst (λ (ps : List Passage). AreBroughtBy (blocks_of s) (reached_of s) true ps c.deref-2.result.now starts) c.deref.ensures.value c.in_ok-starts.ensures.exact)) c.in_ok-starts.ensures.size
    (subst (λ (ps : List Passage). AreLeaving ps starts ends) c.deref-3.ensures.value (subst (λ (xs : List ℕ). AreLeaving c.deref-3.result.now xs ends) c.deref-4.ensures.value c.in_ok-ends.ensures.each))
