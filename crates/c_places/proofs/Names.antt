-- Names that differ.
use Rattle.std.proofs.Common.{◌≡◌, ◌≢◌, ℕ, suc, false, Bool, List, [], ◌∷◌, length, refl, ap, arith}
use Rattle.std.specs.Prelude.{◌==◌, ◌&&◌}
use Rattle.c_places.specs.Places.{is_same_name}

-- a test and one that fails
both_fail : (b c : Bool) → false ≡ c → false ≡ (b && c)
both_fail b c e = grind arith

-- names of two lengths are two
pub lengths_differ : (s t : List ℕ) → length s ≢ length t → false ≡ is_same_name s t
lengths_differ [] [] h = absurd (h refl)
lengths_differ [] (b ∷ t) h = refl
lengths_differ (a ∷ s) [] h = refl
lengths_differ (a ∷ s) (b ∷ t) h = both_fail (a == b) (is_same_name s t) (lengths_differ s t (λ e. h (ap suc e)))
