-- The rules of places and of the owners of code words.
use Rattle.std.specs.Prelude.{◌≡◌, ◌≢◌, ℕ, ◌+◌, ◌%◌, ◌<◌, ◌≤◌, Some, slice_get, IsSomeAnd, length}
use Rattle.std.specs.List.{AllByRecursion}
use Rattle.image_form.specs.declared.tables.Place.{Place}
use Rattle.image_form.specs.Form.{Form, numbered}
use Rattle.image_form.specs.Lists.{EachToNext, AreDistinct}
pub use Rattle.image_form_sections.specs.Bounds.{word_address}

-- The address lies in the code of the k-th function.
abbrev pub IsInFunction : Form → ℕ → ℕ → Type 0
IsInFunction f k address = IsSomeAnd (slice_get f.functions k) (λ g. (g.first ≤ address) × (address < g.end))

-- What a place must be by itself.
pub record IsPlace (f : Form) (p : Place) : Type 0 where
  pub line_from_one : 1 ≤ p.line
  pub address_aligned : p.address % 4 ≡ 0
  -- Its function is there and holds its address.
  pub in_function : IsInFunction f p.function p.address

-- what is asked of the places of an image
pub record PlaceRules (f : Form) : Type 0 where
  pub each : AllByRecursion (IsPlace f) f.places
  pub positions_ascend : EachToNext (λ p q. p.position < q.position) f.places
  pub lines_do_not_fall : EachToNext (λ p q. p.line ≤ q.line) f.places
  pub functions_do_not_fall : EachToNext (λ p q. p.function ≤ q.function) f.places
  pub addresses_differ : AreDistinct (λ p. p.address) f.places

-- The n-th place is of the function that holds the w-th code word.
abbrev pub IsOwner : Form → ℕ → ℕ → Type 0
IsOwner f w n = IsSomeAnd (numbered f.places n) (λ p. IsInFunction f p.function (word_address w))

-- what is asked of the owners of code words
pub record OwnerRules (f : Form) : Type 0 where
  -- Each code word has an entry.
  pub one_each : length f.owners ≡ length f.code
  -- It is 0 or a place of the word's function.
  pub owned : (w n : ℕ) → slice_get f.owners w ≡ Some n → n ≢ 0 → IsOwner f w n
  -- The word at a place's address has that place.
  pub at_places : (i w : ℕ) (p : Place) → slice_get f.places i ≡ Some p → p.address ≡ word_address w
      → slice_get f.owners w ≡ Some (i + 1)
