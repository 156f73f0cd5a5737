-- Keys of computations compare as equal where they are the same.
use Rattle.std.proofs.Common.{◌≡◌, ℕ, ◌&&◌, ap, ◌∙◌, nat_cmp}
use Rattle.std.specs.Ordering.{is_eq, ordering_then}
use Rattle.motion_pass_points.specs.Computing.{same_three, same_key}
use Rattle.motion_pass_points.specs.Numbers.{Key, three_cmp, key_cmp}
use Rattle.base_laws.proofs.Numbers.{is_eq-ordering_then as both_equal, same_number_again as same_number}

three_equal : (k q : ℕ × (ℕ × ℕ)) → is_eq (three_cmp k q) ≡ same_three k q
three_equal k q =
    both_equal (nat_cmp k.0 q.0) (ordering_then (nat_cmp k.1.0 q.1.0) (nat_cmp k.1.1 q.1.1))
    ∙ ap (λ b. is_eq (nat_cmp k.0 q.0) && b) (both_equal (nat_cmp k.1.0 q.1.0) (nat_cmp k.1.1 q.1.1))
    ∙ (λ i. same_number k.0 q.0 i && (same_number k.1.0 q.1.0 i && same_number k.1.1 q.1.1 i))

-- keys compare as equal where they are the same
pub key_equal : (k q : Key) → is_eq (key_cmp k q) ≡ same_key k q
key_equal k q =
    both_equal (nat_cmp k.0 q.0) (ordering_then (three_cmp k.1.0 q.1.0) (three_cmp k.1.1 q.1.1))
    ∙ ap (λ b. is_eq (nat_cmp k.0 q.0) && b) (both_equal (three_cmp k.1.0 q.1.0) (three_cmp k.1.1 q.1.1))
    ∙ (λ i. same_number k.0 q.0 i && (three_equal k.1.0 q.1.0 i && three_equal k.1.1 q.1.1 i))
