-- Lists that answer for any number.
use Rattle.std.specs.Prelude.{ℕ, List, [], slice_get}
use Rattle.std.specs.Option.{option_map_or}
use Rattle.std.specs.Global.{Vec}

-- the list of a number, none where there is none
abbrev pub list_of : List (Vec ℕ) → (number : ℕ) → List ℕ
list_of lists number = option_map_or (λ list. list.items) (slice_get lists number) []
