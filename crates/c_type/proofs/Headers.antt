-- Lists of types.
use Rattle.std.proofs.Common.{◌≡◌, List, [], ◌∷◌, length, false, suc, refl, ap}
use Rattle.c_tree.specs.declared.object_type.Scalar.{Scalar}
use Rattle.c_type_rules.specs.Types.{same_scalar}
use Rattle.c_type.specs.Headers.{same_scalars}
use Rattle.base_laws.proofs.Booleans.{and_false}

-- lists of other lengths are not one
pub apart : (xs ys : List Scalar) → (length xs ≡ length ys → ⊥) → same_scalars xs ys ≡ false
apart [] [] h = absurd (h refl)
apart [] (y ∷ ys) h = refl
apart (x ∷ xs) [] h = refl
apart (x ∷ xs) (y ∷ ys) h = rw (apart xs ys (λ e. h (ap suc e))) (and_false (same_scalar x y))
