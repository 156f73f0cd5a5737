-- The rules of names.
use Rattle.std.specs.Prelude.{◌≡◌, ℕ, ◌+◌, IsTrue, List, [], ◌∷◌, EachIndex, length, sum, ⊤}
use Rattle.std.specs.List.{list_all}
use Rattle.image_form.specs.Form.{Form}
use Rattle.image_form.specs.Names.{function_name_lengths, variable_name_lengths, pass_name_lengths, function_name, variable_name, pass_name}
pub use Rattle.image_form_sections.specs.Letters.{begins_identifier, is_identifier_byte, is_lower_letter}

-- An identifier of C; keywords are not told apart.
abbrev pub IsIdentifier : List ℕ → Type 0
IsIdentifier [] = ⊥
IsIdentifier (c ∷ cs) = IsTrue (begins_identifier c) × IsTrue (list_all is_identifier_byte cs)

-- The name of a variable, or the empty one of a literal.
abbrev pub IsIdentifierOrEmpty : List ℕ → Type 0
IsIdentifierOrEmpty [] = ⊤
IsIdentifierOrEmpty (c ∷ cs) = IsIdentifier (c ∷ cs)

-- what is asked of the letters of all names
pub record NameRules (f : Form) : Type 0 where
  -- The names fill their section.
  pub whole : length f.names ≡ sum (function_name_lengths f) + sum (variable_name_lengths f) + sum (pass_name_lengths f)
  pub functions : EachIndex f.functions (λ k. IsIdentifier (function_name f k))
  pub variables : EachIndex f.variables (λ k. IsIdentifierOrEmpty (variable_name f k))
  -- The name of a pass has lower-case letters only.
  pub passes : EachIndex f.changes (λ k. IsTrue (list_all is_lower_letter (pass_name f k)))
