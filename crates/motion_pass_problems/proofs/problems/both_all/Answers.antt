use Rattle.std.proofs.Common.{◌≡◌, ◌≤◌, ◌&&◌, ℕ, inl, inr, length, sym, ap, ◌∙◌, arith}
use Rattle.std.proofs.lemmas.Bool.{cases_lt}
use Rattle.motion_pass_points.specs.Words.{has}
use Rattle.motion_pass_problems.specs.Flowing.{is_at}
use Rattle.motion_pass_problems.proofs.Pushed.{count_on, each_on, outside}
use Rattle.motion_pass_problems.proofs.problems.both_all.Goals as goal

pub loop-number-preserved : goal.loop-number-preserved
loop-number-preserved c =
    let out = c.loop-number.words.items in
    let number = c.loop-number.number in
    let some = c.args.some.now in
    let other = c.args.other.now in
    record {
      count = count_on out _ c.both-word.result number c.in_ok-push.ensures.items c.loop-number.invariant.count;
      each = each_on (λ n word. (k : ℕ) → has word k ≡ (is_at some k n && is_at other k n)) out _ c.both-word.result 0 number c.in_ok-push.ensures.items c.loop-number.invariant.count
          (λ k. c.both-word.ensures k ∙ (λ j. has (c.word_of-one.ensures j) k && has (c.word_of-another.ensures j) k)) c.loop-number.invariant.each;
    }

pub returns-clause-each : goal.returns-clause-each
returns-clause-each c = λ n k. elim (cases_lt n c.loop-number.number) [
  | inl lt ↦ c.loop-number.invariant.each n lt k
  | inr le ↦ (let beyond : length c.args.some.now ≤ n = omega (arith, le, c.loop-number-test.false) in
      let size : length c.loop-number.words.items ≤ n = omega (arith, le, c.loop-number.invariant.count) in
      outside c.loop-number.words.items k n size ∙ sym (ap (λ b. b && is_at c.args.other.now k n) (outside c.args.some.now k n beyond)))
]
