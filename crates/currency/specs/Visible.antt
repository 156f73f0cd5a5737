-- Which variables are visible at which places.
use Rattle.std.specs.Prelude.{ℕ, ◌+◌, min, List, [], ◌∷◌, ◌++◌, map}
use Rattle.debug_records.specs.declared.change.Var.{Var}
use Rattle.places.specs.declared.table.PlaceRow.{PlaceRow}
use Rattle.currency.specs.declared.verdict.PlaceVerdict.{PlaceVerdict}

-- A variable that is visible at a place.
pub record Sight : Type 0 where
  pub place : ℕ
  pub variable : ℕ

-- of what place and variable a verdict is
abbrev pub sight : PlaceVerdict → Sight
sight v = record { place = v.place.0; variable = v.var.0 }

-- variables that are visible at a place
abbrev pub sights_at : ℕ → List Var → List Sight
sights_at p variables = map (λ (v : Var). record { place = p; variable = v.0 }) variables

-- the number behind a place's, as far as numbers of 32 bits go
abbrev pub next : ℕ → ℕ
next p = min (p + 1) 4294967295

-- The variables that are visible at the places of a table, whose first one has this number: place by place, and in each
-- in the table's order.
abbrev pub sights_from : ℕ → List PlaceRow → List Sight
sights_from p [] = []
sights_from p (r ∷ rows) = sights_at p r.visible.items ++ sights_from (next p) rows
