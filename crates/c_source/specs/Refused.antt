-- What the definitions of order, of sound tokens and of formed trees refuse.
use Rattle.std.specs.Prelude.{◌≡◌, ℕ, false, [], ◌∷◌, None, Some}
use Rattle.debug_records.specs.declared.source.Spot.{Spot}
use Rattle.c_token.specs.Lexemes as word
use Rattle.c_tree.specs.Expressions.{ExpressionTree}
use Rattle.c_tree.specs.Declarations.{DeclarationTree, ParameterTree}
use Rattle.c_tree.specs.Statements.{BlockTree, Declare, If}
use Rattle.c_source.specs.Formed.{IsFormed}
use Rattle.c_source.specs.Files.{IsBodyFormed}
use Rattle.c_source.specs.TextOrder.{AreInOrder}
use Rattle.c_source.specs.Tokens.{IsSound}

-- on the first line, at an offset
abbrev first_line : ℕ → Spot
first_line at = record { at = at; line = 1 }

-- Cases that are refused.
pub record AreRefused : Type 0 where
  -- a spot after which an earlier one stands
  pub earlier : AreInOrder (first_line 5 ∷ first_line 3 ∷ []) → ⊥
  -- one spot twice
  pub twice : AreInOrder (first_line 5 ∷ first_line 5 ∷ []) → ⊥
  -- a later spot on an earlier line
  pub line : AreInOrder (record { at = 5; line = 2 } ∷ first_line 7 ∷ []) → ⊥
  -- a signed constant of 2,147,483,648
  pub large : IsSound (word.Constant (record { value = 2147483648; is_unsigned = false; is_long = false })) → ⊥
  -- a literal of a number that is no byte
  pub byte : IsSound (word.Literal (256 ∷ [])) → ⊥
  -- a declaration as the body of an `if`
  pub declaration : (spot : Spot) (e : ExpressionTree) (d : DeclarationTree) → IsFormed (If spot e (Declare d)) → ⊥
  -- a definition whose parameter has no name
  pub nameless : (d : ParameterTree) (b : BlockTree) → d.name ≡ None → IsBodyFormed (d ∷ []) (Some b) → ⊥
  -- a name without a byte
  pub empty : IsSound (word.Name []) → ⊥
  -- a name that begins with a digit
  pub digit : IsSound (word.Name (49 ∷ [])) → ⊥
