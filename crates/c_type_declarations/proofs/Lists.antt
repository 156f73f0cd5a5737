-- Lists one item at a time.
use Rattle.std.proofs.Common.{◌≡◌, ◌≢◌, ℕ, zero, suc, ◌-◌, ◌<◌, List, [], ◌∷◌, length, map, None, refl, arith, add-one}
use Rattle.std.specs.Prelude.{◌/◌, ◌%◌}
use Rattle.c_tree.specs.declared.declaration.Initializer.{Initializer}
use Rattle.c_tree.specs.Declarations.{InitializerTree, InitializerTrees, Value, Braces, first, chain_of_initializers, initializer_view}
use Rattle.c_type_declarations.specs.Statics.{low_bytes}
use Rattle.c_type_declarations.specs.Objects.{count, only_in}

-- the lowest byte, before the others
pub low_bytes_more : (k n : ℕ) → 0 < k → low_bytes k n ≡ n % 256 ∷ low_bytes (k - 1) (n / 256)
low_bytes_more zero n h = absurd (omega (arith, h))
low_bytes_more (suc k) n h = let e : suc k - 1 ≡ k = omega arith in rw e refl

-- as many initializers as there are items
pub count_chain : (xs : List Initializer) → count (chain_of_initializers (map initializer_view xs)) ≡ length xs
count_chain [] = refl
count_chain (x ∷ xs) = rw (count_chain xs, add-one) refl

two_in : (i j : InitializerTree) (more : InitializerTrees) → only_in (first i (first j more)) ≡ None
two_in (Value e) j more = refl
two_in (Braces all) j more = refl

-- none stands alone where there is not one
pub not_one : (xs : List Initializer) → length xs ≢ 1 → only_in (chain_of_initializers (map initializer_view xs)) ≡ None
not_one [] h = refl
not_one (x ∷ []) h = absurd (h refl)
not_one (x ∷ y ∷ xs) h = two_in (initializer_view x) (initializer_view y) (chain_of_initializers (map initializer_view xs))
