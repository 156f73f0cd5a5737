use Rattle.std.proofs.Common.{◌≡◌, ◌&&◌, ℕ, List, subst}
use Rattle.motion_pass_problems.specs.declared.flow.Passage.{Passage}
use Rattle.motion_pass_problems.specs.Flowing.{is_at}
use Rattle.motion_pass_problems.specs.Problems.{AreBroughtBy, AreLeaving}
use Rattle.motion_pass_problems.specs.MotionProblemsProblems.{blocks_of, reached_of}
use Rattle.std.specs.Prelude.{false}
use Rattle.motion_pass_problems.proofs.Posed.{used_told}
use Rattle.motion_pass_problems.proofs.Zeros.{none_in}
use Rattle.motion_pass_problems.proofs.problems.Problems.used.Goals as goal

pub returns : goal.returns
returns c =
    let s = c.args.self.now in
    let passages = c.in_ok-passages.passages.items in
    let none = c.in_ok-none.none.items in
    let behind = c.in_ok-behind.behind.items in
    let starts = c.in_ok-starts.starts.items in
    let ends = c.in_ok-ends.ends.items in
    used_told (blocks_of s) (reached_of s) s.locals.now c.args.past_starts.now c.args.past_ends.now none behind passages starts ends c.in_ok-passages.ensures (none_in none _ (c.in_ok-none.ensures.items_if_clones_equal (λ y e. e)))
    (subst (λ (xs : List ℕ). AreBroughtBy (blocks_of s) (reached_of s) false passages xs behind) c.deref-2.ensures.value
    (subst (λ (ps : List Passage). AreBroughtBy (blocks_of s) (reached_of s) false ps c.deref-2.result.now behind) c.deref.ensures.value c.in_ok-behind.ensures.exact)) c.in_ok-behind.ensures.size
    (subst (λ (ps : List Passage). AreLeaving ps behind starts) c.deref-3.ensures.value (subst (λ (xs : List ℕ). AreLeaving c.deref-3.result.now xs starts) c.deref-4.ensures.value c.in_ok-starts.ensures.each))
    (subst (λ (xs : List ℕ). (n k : ℕ) → is_at ends k n ≡ (is_at xs k n && is_at c.args.past_ends.now k n)) c.deref-5.ensures.value c.in_ok-ends.ensures.each)
