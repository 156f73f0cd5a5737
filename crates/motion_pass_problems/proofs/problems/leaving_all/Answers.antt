use Rattle.std.proofs.Common.{◌≡◌, ◌≤◌, ◌&&◌, ◌||◌, ℕ, inl, inr, length, ◌∙◌, arith}
use Rattle.std.proofs.lemmas.Bool.{cases_lt}
use Rattle.motion_pass_points.specs.Words.{has}
use Rattle.motion_pass_problems.specs.Flowing.{is_at, lets_pass, makes}
use Rattle.motion_pass_problems.proofs.Pushed.{count_on, each_on, leaving_outside}
use Rattle.motion_pass_problems.proofs.problems.leaving_all.Goals as goal

pub loop-number-preserved : goal.loop-number-preserved
loop-number-preserved c =
    let out = c.loop-number.words.items in
    let number = c.loop-number.number in
    let passages = c.args.passages.now in
    let comes = c.args.comes.now in
    record {
      count = count_on out _ c.leaving-leaves.result number c.in_ok-push.ensures.items c.loop-number.invariant.count;
      each = each_on (λ n word. (k : ℕ) → has word k ≡ (makes passages k n || (is_at comes k n && lets_pass passages k n))) out _ c.leaving-leaves.result 0 number c.in_ok-push.ensures.items c.loop-number.invariant.count
          (λ k. c.leaving-leaves.ensures k ∙ (λ j. has (c.passage_at-passage.ensures j).made k || (has (c.word_of-come.ensures j) k && has (c.passage_at-passage.ensures j).passed k))) c.loop-number.invariant.each;
    }

pub returns-clause-each : goal.returns-clause-each
returns-clause-each c = λ n k. elim (cases_lt n c.loop-number.number) [
  | inl lt ↦ c.loop-number.invariant.each n lt k
  | inr le ↦ (let beyond : length c.args.passages.now ≤ n = omega (arith, le, c.loop-number-test.false) in
      let size : length c.loop-number.words.items ≤ n = omega (arith, le, c.loop-number.invariant.count) in
      leaving_outside c.args.passages.now c.args.comes.now c.loop-number.words.items n k beyond size)
]
