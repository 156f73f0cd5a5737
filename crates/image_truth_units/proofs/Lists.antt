-- What is so of each record of a table, by their indices.
use Rattle.std.proofs.Common.{◌≡◌, ℕ, suc, Some, List, [], ◌∷◌, map, slice_get, refl, sym, ap, ◌∙◌}
use Rattle.image_form.specs.Lists.{EachToNext}
pub use Rattle.base_laws.proofs.Lists.{each_from as all_from, from_map, got_one as all_at, map_at, there_again as there}

pub next_from : {A : Type 0} (R : A → A → Type 0) (xs : List A) → ((i : ℕ) (x y : A) → slice_get xs i ≡ Some x → slice_get xs (suc i) ≡ Some y → R x y) → EachToNext R xs
next_from R [] each = tt
next_from R (x ∷ []) each = (tt, tt)
next_from R (x ∷ y ∷ xs) each = (each 0 x y refl refl, next_from R (y ∷ xs) (λ i a b is at. each (suc i) a b is at))

-- two tables of which the same is said: what stands in one has its like in the other
pub across : {A B C : Type 0} (f : A → C) (g : B → C) (xs : List A) (ys : List B) (k : ℕ) (x : A) → map f xs ≡ map g ys → slice_get xs k ≡ Some x → (y : B) × (slice_get ys k ≡ Some y) × (g y ≡ f x)
across f g xs ys k x same is = from_map g ys k (f x) (ap (λ l. slice_get l k) (sym same) ∙ map_at f xs k x is)
