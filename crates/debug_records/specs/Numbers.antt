-- The numbers of changes.
use Rattle.std.specs.Prelude.{◌≡◌, ◌+◌, ℕ, Some, List, slice_get}
use Rattle.debug_records.specs.declared.change.Change.{Change}

-- Each change has its number: they go from 1 in the order of the changes.
abbrev pub AreNumbered : List Change → Type 0
AreNumbered all = (k : ℕ) (d : Change) → slice_get all k ≡ Some d → d.number ≡ k + 1
