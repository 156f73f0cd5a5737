-- Which objects of a memory have not ended, by number.
use Rattle.std.specs.Prelude.{◌≡◌, ℕ, ◌+◌, Bool, false, if◌then◌else◌, Option, Some, None, List, [], ◌∷◌, slice_get}
use Rattle.std.specs.Option.{option_map_or}
use Rattle.word_base.specs.Owners.{Owner}
use Rattle.c_meaning_values.specs.Memory.{Memory, Object, is_over, is_owned}

-- the numbers of the objects that have not ended, where the first object has this number
abbrev pub living_from : ℕ → Memory → List ℕ
living_from n [] = []
living_from n (o ∷ memory) = if is_over o.phase then living_from (n + 1) memory else n ∷ living_from (n + 1) memory

-- the object with this number, if there is one, has not ended
abbrev pub IsLivingAt : Memory → ℕ → Type 0
IsLivingAt memory n = (o : Object) → slice_get memory n ≡ Some o → is_over o.phase ≡ false

-- the object with this number is there, is this owner's, and has not ended
abbrev pub is_owned_at : Owner → Memory → ℕ → Bool
is_owned_at owner memory n = option_map_or (λ o. is_owned owner o) (slice_get memory n) false

-- the first of these numbers whose object is this owner's, and has not ended
abbrev pub owned_among : Owner → Memory → List ℕ → Option ℕ
owned_among owner memory [] = None
owned_among owner memory (n ∷ numbers) = if is_owned_at owner memory n then Some n else owned_among owner memory numbers
