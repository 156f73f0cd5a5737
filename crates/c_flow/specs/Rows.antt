-- The rows of the table of a program's places.
use Rattle.std.specs.Prelude.{ℕ, List, [], ◌∷◌, ◌++◌, map, Bool, Option, Some, None}
use Rattle.debug_records.specs.declared.change.Var.{Var}
use Rattle.places.specs.declared.table.PlaceRow.{PlaceRow}
use Rattle.c_tree.specs.declared.object_type.Object.TheVariants as object
use Rattle.c_tree.specs.Programs.{ProgramTree}
use Rattle.c_places.specs.Places.{Place, places_of_program, visible}
use Rattle.c_flow.specs.Assigns.{variable_number}

-- a variable, if there is one
abbrev pub variable_if : Option ℕ → List ℕ
variable_if None = []
variable_if (Some x) = x ∷ []

-- automatic variables by their numbers among all variables of a program
abbrev pub numbers_of : ProgramTree → List ℕ → List ℕ
numbers_of p [] = []
numbers_of p (x ∷ all) = variable_if (variable_number p (object.Automatic x)) ++ numbers_of p all

-- A row of the table of places: where the place stands, its function, whether it is the function's entry, and the
-- variables that are visible there.
pub record Row : Type 0 where
  pub position : ℕ
  pub line : ℕ
  pub function : ℕ
  pub is_entry : Bool
  pub visible : List ℕ

-- the row of a place, as definitions speak of it
abbrev pub row_view : PlaceRow → Row
row_view r =
    record {
      position = r.position;
      line = r.line;
      function = r.function;
      is_entry = r.is_entry;
      visible = map (λ (v : Var). v.0) r.visible.items;
    }

-- the row of a place
abbrev pub flow_row : ProgramTree → Place → Row
flow_row p place =
    record {
      position = place.spot.at;
      line = place.spot.line;
      function = place.function;
      is_entry = place.is_entry;
      visible = numbers_of p (visible p.automatics place.scope);
    }

-- the rows of a program's places, in the order of the text
abbrev pub rows_of_program : ProgramTree → List Row
rows_of_program p = map (flow_row p) (places_of_program p)
