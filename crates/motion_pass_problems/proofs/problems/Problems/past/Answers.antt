use Rattle.std.proofs.Common.{ℕ, List, true, subst}
use Rattle.motion_pass_problems.specs.declared.flow.Passage.{Passage}
use Rattle.motion_pass_problems.specs.Problems.{AreBroughtBy, AreLeaving}
use Rattle.motion_pass_problems.specs.MotionProblemsProblems.{blocks_of, reached_of}
use Rattle.motion_pass_problems.proofs.Posed.{past_told}
use Rattle.motion_pass_problems.proofs.problems.Problems.past.Goals as goal

pub returns : goal.returns
returns c =
    let s = c.args.self.now in
    let passages = c.in_ok-passages.passages.items in
    let starts = c.in_ok-starts.starts.items in
    let ends = c.in_ok-ends.ends.items in
    past_told (blocks_of s) (reached_of s) s.locals.now c.args.unsafe_ends.now c.args.unsafe_starts.now c.args.unhad_ends.now passages starts ends c.requires.open c.requires.starts c.requires.had c.in_ok-passages.ensures
    (subst (λ (ps : List Passage). AreBroughtBy (blocks_of s) (reached_of s) true ps c.args.unsafe_starts.now starts) c.deref.ensures.value c.in_ok-starts.ensures.exact) c.in_ok-starts.ensures.size
    (subst (λ (ps : List Passage). AreLeaving ps starts ends) c.deref-2.ensures.value (subst (λ (xs : List ℕ). AreLeaving c.deref-2.result.now xs ends) c.deref-3.ensures.value c.in_ok-ends.ensures.each))
