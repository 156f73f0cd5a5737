-- The first row that breaks its rule.
use Rattle.std.proofs.Common.{◌≡◌, ℕ, suc, ◌+◌, ◌-◌, ◌<◌, Bool, List, Option, Some, None, refl, arith, add-one}
use Rattle.image_form_sections.specs.Breaches.{first_false, first_broken}

-- A row that keeps its rule is passed.
pub passed : (tests : ℕ → List Bool) (count row : ℕ) → row < count → first_false (tests row) ≡ None → first_broken tests (count - row) row ≡ first_broken tests (count - (row + 1)) (row + 1)
passed tests count row lt kept = let left : count - row ≡ suc (count - (row + 1)) = omega (arith, lt) in rw (left, kept, add-one) refl

pub none_of : {A : Type 0} (o : Option A) → ((x : A) → o ≡ Some x → ⊥) → o ≡ None
none_of None never = refl
none_of (Some x) never = absurd (never x refl)
