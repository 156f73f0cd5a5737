-- What blocks hold by a plan.
use Rattle.std.proofs.Common.{◌≡◌, ℕ, zero, suc, List, [], ◌∷◌, ◌++◌, slice_get, refl}
use Rattle.std.specs.Option.{option_map_or}
use Rattle.std.specs.List.{AllByRecursion}
use Rattle.rv_emit_words.specs.declared.piece.Held.{Held}
use Rattle.rv_emit_plan.specs.Plans.{AreConstants}
pub use Rattle.base_laws.proofs.Lists.{all_one_more as all_with}

-- ---- Lists

-- ---- Blocks

-- Where all hold constants, the one of a number does, or there is none.
pub constants_at : {V : Type 0} (items : V → List Held) (all : List V) (n : ℕ) → AllByRecursion (λ of. AreConstants (items of)) all → AreConstants (option_map_or items (slice_get all n) [])
constants_at items [] n all = tt
constants_at items (x ∷ xs) zero all = all.0
constants_at items (x ∷ xs) (suc n) all = constants_at items xs n all.1

-- The first of some holds what it held where there is one more.
pub first_with : {V : Type 0} (items : V → List Held) (all : List V) (v : V) → (all ≡ [] → items v ≡ []) → option_map_or items (slice_get all 0) [] ≡ [] → option_map_or items (slice_get (all ++ v ∷ []) 0) [] ≡ []
first_with items [] v none first = none refl
first_with items (x ∷ xs) v none first = first
