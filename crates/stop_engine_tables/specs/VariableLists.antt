-- The variables of each function, one behind the other.
use Rattle.std.specs.Prelude.{◌≡◌, ℕ, ◌+◌, ◌<◌, ◌≤◌, Bool, true, false, if◌then◌else◌, Some, List, [], ◌∷◌, All, length, slice_index, slice_index_or, drop}
use Rattle.image_form.specs.Form.{Form}
use Rattle.image_form.specs.declared.variables.Storage.{Storage}
use Rattle.image_form.specs.declared.variables.Storage.TheVariants.{Static, Frame, Register, Slot}
use Rattle.image_form.specs.declared.variables.Variable.{Variable}
use Rattle.stop_engine_tables.specs.declared.variable_lists.VariableLists.{VariableLists}
use Rattle.stop_engine_view.specs.Pointers.{is_variable_of}

-- the number of the first variable of a function, of variables that are counted on from a number; the number behind the
-- last one where there is none
abbrev pub next_of : (function number : ℕ) → List Variable → ℕ
next_of function number [] = number
next_of function number (v ∷ variables) =
    if is_variable_of function v then number else next_of function (number + 1) variables

-- what is kept in static memory
abbrev pub is_kept_statically : Storage → Bool
is_kept_statically (Static address) = true
is_kept_statically (Frame offset) = false
is_kept_statically (Register number) = false
is_kept_statically (Slot offset) = false

abbrev pub is_static : Variable → Bool
is_static v = is_kept_statically v.storage

-- The lists are the image's: each function's first variable, the next one of each variable's function, and no static
-- variable behind the last.
pub record AreListsOf (m : Form) (l : VariableLists) : Type 0 where
  pub functions : length l.first.items ≡ length m.functions
  pub rows : length l.next.items ≡ length m.variables
  pub first : (f : ℕ) → f < length l.first.items → slice_index l.first.items f ≡ next_of f 0 m.variables
  pub next : (i f : ℕ) (d : Variable) → i < length m.variables → (slice_index_or m.variables i d).function ≡ Some f
      → slice_index l.next.items i ≡ next_of f (i + 1) (drop (i + 1) m.variables)
  pub within : l.statics ≤ length m.variables
  pub statics : All (λ (v : Variable). is_static v ≡ false) (drop l.statics m.variables)
