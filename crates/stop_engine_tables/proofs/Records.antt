-- Records that are read each by its number.
use Rattle.std.proofs.Common.{◌≡◌, ℕ, ◌+◌, ◌++◌, Some, List, [], ◌∷◌, map, take, drop, get_or, sym, ap, ◌∙◌}
use Rattle.std.specs.Prelude.{slice_get}
use Rattle.std.proofs.lemmas.List.{drop_more, map_push, take_more}
use Rattle.std.proofs.lemmas.Option.{get_or_from_slice_get, slice_get_within}

-- the record of a number
pub record_at : {A : Type 0} (xs : List A) (n : ℕ) (x d : A) → slice_get xs n ≡ Some x → x ≡ get_or xs n d
record_at xs n x d at = sym (get_or_from_slice_get xs n x d at)

-- the records from one on
pub records_from : {A : Type 0} (xs : List A) (n : ℕ) (x : A) → slice_get xs n ≡ Some x → drop n xs ≡ x ∷ drop (n + 1) xs
records_from xs n x at = drop_more xs n x (slice_get_within xs n x at) ∙ ap (λ y. y ∷ drop (n + 1) xs) (get_or_from_slice_get xs n x x at)

-- what is made of those before one, and of that one
pub made_of_more : {A B : Type 0} (f : A → B) (xs : List A) (n : ℕ) (x : A) (made more : List B) → made ≡ map f (take n xs) → slice_get xs n ≡ Some x → more ≡ made ++ f x ∷ []
    → more ≡ map f (take (n + 1) xs)
made_of_more f xs n x made more is at next =
    next ∙ (ap (λ l. l ++ f x ∷ []) is ∙ (sym (map_push f (take n xs) x)
    ∙ ap (map f) (ap (λ y. take n xs ++ y ∷ []) (record_at xs n x x at) ∙ sym (take_more xs n x (slice_get_within xs n x at)))))
