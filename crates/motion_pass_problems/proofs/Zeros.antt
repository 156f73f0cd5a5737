-- Words that are all empty.
use Rattle.std.proofs.Common.{◌≡◌, ℕ, zero, suc, false, List, get_or, replicate, refl, ap, ◌∙◌}
use Rattle.motion_pass_points.specs.Words.{has}
use Rattle.motion_pass_problems.specs.Flowing.{is_at}
use Rattle.motion_pass_problems.proofs.Pushed.{has_none}

zero_there : (count n : ℕ) → ◌≡◌ {A = ℕ} (get_or (replicate count 0) n 0) 0
zero_there zero n = refl
zero_there (suc count) zero = refl
zero_there (suc count) (suc n) = zero_there count n

pub none_in : (words : List ℕ) (count : ℕ) → words ≡ replicate count 0 → (k n : ℕ) → is_at words k n ≡ false
none_in words count are k n = ap (λ (ws : List ℕ). is_at ws k n) are ∙ ap (λ w. has w k) (zero_there count n) ∙ has_none k
