-- Expressions of one token, as constraints of the language speak of them.
use Rattle.std.specs.Prelude.{ℕ, List}
use Rattle.debug_records.specs.declared.source.Spot.{Spot}
use Rattle.c_tree.specs.declared.extent.Extent.{Extent}
use Rattle.c_tree.specs.declared.types.IntegerType.{IntegerType}
use Rattle.c_tree.specs.declared.expression.Core.{Core}
use Rattle.c_tree.specs.declared.expression.Core.TheVariants as core
use Rattle.c_tree.specs.Expressions.{ExpressionTree, NameTree, identifier_view, Name, Constant, Literal, Parenthesized}

-- what an expression is, once the parentheses around all of it are left out: a name, a constant, string literals, or an
-- expression with operators
pub data CoreTree : Type 0 where
  Named : NameTree → CoreTree
  Constantly : Spot → (value : ℕ) → IntegerType → CoreTree
  Literally : Extent → (bytes : List ℕ) → CoreTree
  Compound : CoreTree

-- what an expression is, once the parentheses around all of it are left out
abbrev pub core_of : ExpressionTree → CoreTree
core_of (Name n) = Named n
core_of (Constant spot value type) = Constantly spot value type
core_of (Literal extent bytes) = Literally extent bytes
core_of (Parenthesized extent e) = core_of e
core_of _ = Compound

-- a core with the values that its references point to
abbrev pub core_view : Core → CoreTree
core_view (core.Name identifier) = Named (identifier_view identifier.now)
core_view (core.Constant spot value type) = Constantly spot value type
core_view (core.Literal extent bytes) = Literally extent bytes.now
core_view core.Compound = Compound
