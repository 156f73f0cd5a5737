-- The names in the section of names, where they lie one after the other.
use Rattle.std.specs.Prelude.{ℕ, ◌+◌, List, take, drop, map, sum, slice_index}
use Rattle.image_form.specs.declared.tables.Change.{Change}
use Rattle.image_form.specs.declared.tables.Function.{Function}
use Rattle.image_form.specs.declared.variables.Variable.{Variable}
use Rattle.image_form.specs.Form.{Form}

-- The bytes of the k-th name, where names of these lengths lie one after the other.
abbrev pub name_at : List ℕ → ℕ → List ℕ → List ℕ
name_at lengths k bytes = take (slice_index lengths k) (drop (sum (take k lengths)) bytes)

-- How long the name of each function is.
abbrev pub function_name_lengths : Form → List ℕ
function_name_lengths f = map (λ (g : Function). g.name_length) f.functions

-- How long the name of each variable is.
abbrev pub variable_name_lengths : Form → List ℕ
variable_name_lengths f = map (λ (v : Variable). v.name_length) f.variables

-- How long the name of the pass of each change is.
abbrev pub pass_name_lengths : Form → List ℕ
pass_name_lengths f = map (λ (c : Change). c.pass_length) f.changes

-- The name of the k-th function.
abbrev pub function_name : Form → ℕ → List ℕ
function_name f k = name_at (function_name_lengths f) k f.names

-- The name of the k-th variable; a literal's is empty.
abbrev pub variable_name : Form → ℕ → List ℕ
variable_name f k = name_at (variable_name_lengths f) k (drop (sum (function_name_lengths f)) f.names)

-- The name of the pass that made the k-th change, counted from 0.
abbrev pub pass_name : Form → ℕ → List ℕ
pass_name f k =
    name_at (pass_name_lengths f) k (drop (sum (function_name_lengths f) + sum (variable_name_lengths f)) f.names)
