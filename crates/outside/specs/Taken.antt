-- What a sink took of a piece.
use Rattle.std.specs.Prelude.{◌≡◌, ℕ, List, ◌++◌}

-- the part is what the whole begins with
abbrev pub IsPrefix : List ℕ → List ℕ → Type 0
IsPrefix part whole = (rest : List ℕ) × (whole ≡ part ++ rest)

-- of the piece a prefix was taken, which may be empty or whole
abbrev pub TakesPart : List ℕ → List ℕ → List ℕ → Type 0
TakesPart piece old new = (part : List ℕ) × IsPrefix part piece × (new ≡ old ++ part)
