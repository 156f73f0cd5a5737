-- The functions of an image by their names.
use Rattle.std.specs.Prelude.{◌≡◌, ℕ, ◌+◌, if◌then◌else◌, bytes_eq, Option, Some, None, List, [], ◌∷◌}
use Rattle.std.specs.BTreeMap as tree
use Rattle.std.specs.Cmp.Lexicographic.{slice_cmp}
use Rattle.std.specs.Ordering.{nat_cmp}
use Rattle.image_form.specs.Form.{Form}
use Rattle.image_form.specs.Names.{function_name}
use Rattle.image_form.specs.declared.tables.Function.{Function}
use Rattle.stop_engine.specs.declared.function_names.FunctionNames.{FunctionNames}

-- the number of the first function of a name, of functions that are counted on from a number
abbrev pub number_called : Form → (name : List ℕ) → (number : ℕ) → List Function → Option ℕ
number_called m name number [] = None
number_called m name number (f ∷ functions) =
    if bytes_eq (function_name m number) name then Some number else number_called m name (number + 1) functions

-- each name has the number of its first function
abbrev pub AreFunctionNamesOf : Form → FunctionNames → Type 0
AreFunctionNamesOf m names =
    (name : List ℕ) → tree.get_by (λ k. slice_cmp nat_cmp name k.now) names.first ≡ number_called m name 0 m.functions
