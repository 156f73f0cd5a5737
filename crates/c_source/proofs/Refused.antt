-- The refused cases, one by one.
use Rattle.std.proofs.Common.{◌≡◌, ℕ, true, false, [], ◌∷◌, None, Some}
use Rattle.debug_records.specs.declared.source.Spot.{Spot}
use Rattle.c_token.specs.Lexemes as word
use Rattle.c_tree.specs.Expressions.{ExpressionTree}
use Rattle.c_tree.specs.Declarations.{DeclarationTree, ParameterTree}
use Rattle.c_tree.specs.Statements.{BlockTree, Declare, If}
use Rattle.c_source.specs.Formed.{IsFormed}
use Rattle.c_source.specs.Files.{IsBodyFormed}
use Rattle.c_source.specs.TextOrder.{AreInOrder}
use Rattle.c_source.specs.Tokens.{IsSound}
use Rattle.c_source.specs.Refused.{AreRefused}

-- on the first line, at an offset
abbrev first_line : ℕ → Spot
first_line at = record { at = at; line = 1 }

-- a spot behind which an earlier one stands
pub earlier_refused : ¬ AreInOrder (first_line 5 ∷ first_line 3 ∷ [])
earlier_refused h = let e : false ≡ true = h.offsets in absurd cc

-- one spot twice
pub twice_refused : ¬ AreInOrder (first_line 5 ∷ first_line 5 ∷ [])
twice_refused h = let e : false ≡ true = h.offsets in absurd cc

-- a later spot on an earlier line
pub line_refused : ¬ AreInOrder (record { at = 5; line = 2 } ∷ first_line 7 ∷ [])
line_refused h = let e : false ≡ true = h.lines in absurd cc

-- a signed constant of 2,147,483,648
pub large_refused : ¬ IsSound (word.Constant (record { value = 2147483648; is_unsigned = false; is_long = false }))
large_refused h = let e : false ≡ true = h in absurd cc

-- a literal of a number that is no byte
pub byte_refused : ¬ IsSound (word.Literal (256 ∷ []))
byte_refused h = let e : false ≡ true = h in absurd cc

-- a declaration as the body of an `if`
pub declaration_refused : (spot : Spot) (e : ExpressionTree) (d : DeclarationTree) → ¬ IsFormed (If spot e (Declare d))
declaration_refused spot e d h = let f : false ≡ true = h.2 in absurd cc

-- a definition whose parameter has no name
pub nameless_refused : (d : ParameterTree) (b : BlockTree) → d.name ≡ None → ¬ IsBodyFormed (d ∷ []) (Some b)
nameless_refused d b e h = let f = h.0.0.1 in absurd cc

-- a name without a byte
pub empty_refused : ¬ IsSound (word.Name [])
empty_refused h = let e : false ≡ true = h in absurd cc

-- a name that begins with a digit
pub digit_refused : ¬ IsSound (word.Name (49 ∷ []))
digit_refused h = let e : false ≡ true = h in absurd cc

pub are_refused : AreRefused
are_refused = record {
  earlier = earlier_refused;
  twice = twice_refused;
  line = line_refused;
  large = large_refused;
  byte = byte_refused;
  declaration = declaration_refused;
  nameless = nameless_refused;
  empty = empty_refused;
  digit = digit_refused;
}
