-- Entries of places: each with the round in which it was put.
use Rattle.std.specs.Prelude.{◌≡◌, ◌==◌, ◌≤◌, ℕ, if◌then◌else◌, List, Option, Some, None, slice_get}

-- no entry is of a later round
abbrev pub AreUpTo : {T : Type 0} → (round : ℕ) → List (ℕ × T) → Type 0
AreUpTo {T} round entries = (p : ℕ) (e : ℕ × T) → slice_get entries p ≡ Some e → e.0 ≤ round

-- what an entry says in a round: nothing where it is of another one
abbrev pub said_in : {T : Type 0} → (round : ℕ) → Option (ℕ × T) → Option T
said_in round None = None
said_in round (Some e) = if e.0 == round then Some e.1 else None
