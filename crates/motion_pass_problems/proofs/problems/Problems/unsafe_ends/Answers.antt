use Rattle.std.proofs.Common.{false, ℕ, List, subst}
use Rattle.motion_pass_problems.specs.Problems.{AreBroughtBy}
use Rattle.motion_pass_problems.specs.MotionProblemsProblems.{blocks_of, reached_of}
use Rattle.motion_pass_problems.proofs.Posed.{unsafe_told}
use Rattle.motion_pass_problems.proofs.problems.Problems.unsafe_ends.Goals as goal

pub returns : goal.returns
returns c =
    let s = c.args.self.now in
    unsafe_told (blocks_of s) (reached_of s) s.locals.now c.args.passages.now c.in_ok-begins.begins.items c.in_ok-words.words.items c.requires.passages (λ k n b at. c.in_ok-begins.ensures.each k n b at)
    (subst (λ (xs : List ℕ). AreBroughtBy (blocks_of s) (reached_of s) false c.args.passages.now xs c.in_ok-words.words.items) c.deref.ensures.value c.in_ok-words.ensures.exact) c.in_ok-words.ensures.size
