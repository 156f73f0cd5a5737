-- Lists by number.
use Rattle.std.specs.Prelude.{ℕ, List, [], length, slice_get}
use Rattle.std.specs.Option.{option_map_or}
use Rattle.currency_writers.specs.declared.lists.Lists as declared-lists

-- the list of a number; no entries where there is none
abbrev pub entries_of : declared-lists.Lists → (k : ℕ) → List ℕ
entries_of all k = option_map_or (λ v. v.items) (slice_get all.lists.items k) []

-- how many lists there are
abbrev pub count_of : declared-lists.Lists → ℕ
count_of all = length all.lists.items
