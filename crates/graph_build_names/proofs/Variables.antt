-- A stretch of mapped elements is the stretch, mapped.
use Rattle.std.proofs.Common.{◌≡◌, ℕ, List, map, take, drop}
use Rattle.std.proofs.lemmas.List.{take-map, drop-map}

pub stretch_of_map : {X Y : Type 0} (f : X → Y) (count first : ℕ) (xs : List X) → take count (drop first (map f xs)) ≡ map f (take count (drop first xs))
stretch_of_map f count first xs = rw (drop-map f first xs) (take-map f count (drop first xs))
