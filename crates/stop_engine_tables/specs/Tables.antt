-- The tables of an image that an engine keeps.
use Rattle.std.specs.Prelude.{◌≡◌, ℕ, ◌+◌, List, [], ◌∷◌, sum}
use Rattle.image_form.specs.Form.{Form}
use Rattle.image_form.specs.Names.{function_name_lengths, variable_name_lengths, pass_name_lengths}
use Rattle.places.specs.Flow.{AreInOrder}
use Rattle.stop_engine_tables.specs.Flow.{IsFlowOf}
use Rattle.stop_engine_tables.specs.VariableLists.{AreListsOf}
use Rattle.stop_engine_tables.specs.declared.tables.NameStarts.{NameStarts}
use Rattle.stop_engine_tables.specs.declared.tables.Tables.{Tables}

-- where names of these lengths start that lie one after the other, the first of them there
abbrev pub starts_from : (first : ℕ) → (lengths : List ℕ) → List ℕ
starts_from first [] = []
starts_from first (n ∷ lengths) = first ∷ starts_from (first + n) lengths

-- The names of functions come first, then those of variables, then those of passes.
pub record AreStartsOf (m : Form) (s : NameStarts) : Type 0 where
  pub functions : s.functions.items ≡ starts_from 0 (function_name_lengths m)
  pub variables : s.variables.items ≡ starts_from (sum (function_name_lengths m)) (variable_name_lengths m)
  pub passes : s.passes.items
      ≡ starts_from (sum (function_name_lengths m) + sum (variable_name_lengths m)) (pass_name_lengths m)

-- the tables are the image's
pub record AreTablesOf (m : Form) (t : Tables) : Type 0 where
  pub flow : IsFlowOf m t.flow
  pub order : AreInOrder t.flow.steps.items
  pub names : AreStartsOf m t.names
  pub variables : AreListsOf m t.variables
