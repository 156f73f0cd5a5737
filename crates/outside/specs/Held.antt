-- What a load gives of the bytes under a name, and what a save that gave an error leaves there.
use Rattle.std.specs.Prelude.{◌≡◌, ◌+◌, ◌⊎◌, ℕ, List, take, Option, Some, None}
use Rattle.outside.specs.Taken.{IsPrefix}

-- a load under a limit gives the first limit + 1 bytes that the name holds, or all if there are fewer;
-- of a name that is absent it gives nothing
abbrev pub Loads : Option (List ℕ) → ℕ → List ℕ → Type 0
Loads None limit got = ⊥
Loads (Some bytes) limit got = got ≡ take (limit + 1) bytes

-- after a save that gave an error the name holds what it held before, or a prefix of the bytes
abbrev pub IsKeptOrCut : List ℕ → Option (List ℕ) → Option (List ℕ) → Type 0
IsKeptOrCut bytes old new = (new ≡ old) ⊎ ((part : List ℕ) × IsPrefix part bytes × (new ≡ Some part))
