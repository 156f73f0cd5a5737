-- The rows of a place.
use Rattle.std.specs.Prelude.{ℕ, ◌==◌, List}
use Rattle.std.specs.List.{filter}
use Rattle.image_form.specs.declared.verdicts.VisibleRow.{VisibleRow}

-- the rows of a place, in their order
abbrev pub rows_at : (place : ℕ) → List VisibleRow → List VisibleRow
rows_at place rows = filter (λ (r : VisibleRow). r.place == place) rows
