-- Lists that grow by one.
use Rattle.std.proofs.Common.{◌≡◌, ℕ, ◌+◌, ◌<◌, ◌≤◌, true, false, not, ◌&&◌, ◌||◌, List, [], ◌∷◌, ◌++◌, length, get_or, sym, ap, ◌∙◌, subst, arith, inl, inr}
use Rattle.std.specs.Prelude.{◌==◌, ◌%◌}
use Rattle.std.proofs.lemmas.Bool.{cases_lt}
use Rattle.std.proofs.lemmas.List.{get_or_past, length-append}
use Rattle.std.proofs.lemmas.Nat.Bits.{bit_at-zero}
use Rattle.motion_pass_points.specs.Words.{has}
use Rattle.motion_pass_points.proofs.Bits.{has_not}
use Rattle.motion_pass_problems.specs.declared.flow.Passage.{Passage}
use Rattle.motion_pass_problems.specs.Flowing.{is_at, lets_pass, makes, no_passage}
use Rattle.motion_pass_problems.proofs.Bools.{and_false}
use Rattle.base_laws.proofs.Lists.{snoc_below as pushed_below, snoc_there as pushed_there}

-- what holds of each holds of one more
pub each_on : {A : Type 0} (P : ℕ → A → Type 0) (out longer : List A) (a d : A) (k : ℕ) → longer ≡ out ++ a ∷ [] → length out ≡ k → P k a → ((n : ℕ) → n < k → P n (get_or out n d)) → (n : ℕ) → n < k + 1 → P n (get_or longer n d)
each_on P out longer a d k grown count is was n lt = subst (λ (xs : List _). P n (get_or xs n d)) (sym grown) (elim (cases_lt n k) [
  | inl less ↦ subst (P n) (sym (pushed_below out a d n (omega (arith, less, count)))) (was n less)
  | inr more ↦
      let same : n ≡ k = omega (arith, lt, more) in
      subst (λ m. P m (get_or (out ++ a ∷ []) m d)) (sym same) (subst (P k) (sym (ap (λ m. get_or (out ++ a ∷ []) m d) (sym count) ∙ pushed_there out a d)) is)
])

-- and there is one more
pub count_on : {A : Type 0} (out longer : List A) (a : A) (k : ℕ) → longer ≡ out ++ a ∷ [] → length out ≡ k → length longer ≡ k + 1
count_on out longer a k grown count =
    let more : length (out ++ a ∷ []) ≡ length out + 1 = length-append out (a ∷ []) in
    ap length grown ∙ more ∙ ap (λ n. n + 1) count

pub has_none : (k : ℕ) → has 0 k ≡ false
has_none k = ap (λ b. b == 1) (bit_at-zero (k % 64))

-- all are in a full word
pub has_all : (k : ℕ) → has 18446744073709551615 k ≡ true
has_all k = has_not 0 k (omega arith) ∙ ap not (has_none k)

-- outside is no fact
pub outside : (words : List ℕ) (k n : ℕ) → length words ≤ n → is_at words k n ≡ false
outside words k n le = ap (λ w. has w k) (get_or_past words n 0 le) ∙ has_none k

-- outside nothing leaves
pub leaving_outside : (passages : List Passage) (comes words : List ℕ) (n k : ℕ) → length passages ≤ n → length words ≤ n → is_at words k n ≡ (makes passages k n || (is_at comes k n && lets_pass passages k n))
leaving_outside passages comes words n k beyond size =
    let none : get_or passages n no_passage ≡ no_passage = get_or_past passages n no_passage beyond in
    outside words k n size ∙ sym (ap (λ (p : Passage). has p.made k || (is_at comes k n && has p.passed k)) none ∙ (λ i. has_none k i || (is_at comes k n && has_none k i)) ∙ and_false (is_at comes k n))
