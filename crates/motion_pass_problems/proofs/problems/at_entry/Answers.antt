use Rattle.std.proofs.Common.{◌≡◌, inl, inr, true≢false, length, sym, ap, ◌∙◌, arith}
use Rattle.std.proofs.lemmas.Bool.{cases_eq}
use Rattle.std.proofs.lemmas.List.{get_or-set_same, get_or-set_other, length-replicate}
use Rattle.motion_pass_points.specs.Words.{has}
use Rattle.motion_pass_problems.proofs.Pushed.{has_all}
use Rattle.motion_pass_problems.proofs.Zeros.{none_in}
use Rattle.motion_pass_problems.proofs.problems.at_entry.Goals as goal

pub returns-clause-first : goal.returns-clause-first
returns-clause-first c = λ k lt.
    (let size : length c.in_ok-words.words.items ≡ c.args.count = ap length (c.in_ok-words.ensures.items_if_clones_equal (λ y e. e)) ∙ length-replicate c.args.count 0 in
    ap (λ w. has w k) (get_or-set_same c.in_ok-words.words.items 0 18446744073709551615 0 (omega (arith, lt, size))) ∙ has_all k)

pub returns-clause-only : goal.returns-clause-only
returns-clause-only c = λ k n so. elim (cases_eq n 0) [
  | inl same ↦ same
  | inr other ↦ absurd (true≢false (sym so ∙ ap (λ w. has w k) (get_or-set_other c.in_ok-words.words.items 0 n 18446744073709551615 0 other) ∙ none_in c.in_ok-words.words.items c.args.count (c.in_ok-words.ensures.items_if_clones_equal (λ y e. e)) k n))
]

pub returns-then-count-eq0-clause-only : goal.returns-then-count-eq0-clause-only
returns-then-count-eq0-clause-only c = λ k n so. absurd (true≢false (sym so ∙ none_in c.in_ok-words.words.items c.args.count (c.in_ok-words.ensures.items_if_clones_equal (λ y e. e)) k n))
