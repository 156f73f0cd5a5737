-- Where the left operands of operators stand, one within the other.
use Rattle.std.specs.Prelude.{ℕ, List, [], ◌∷◌}
use Rattle.c_tree.specs.TypedExpressions.{RvalueTree, Arithmetic, Compare, Move, And, Or, Comma}
use Rattle.graph_build_layout.specs.declared.laid.Use.{Use}
use Rattle.graph_build_layout.specs.declared.laid.Use.TheVariants.{Anywhere, Nothing, Tested}
use Rattle.graph_build_layout.specs.Laid.{Laid, behind_own}
use Rattle.graph_build_layout.specs.Layout.{laid}
use Rattle.graph_build_names.specs.Names.{Names}

module _ (n : Names) where
  -- Where the left operand of an expression stands, then that of this operand, and so on, as far as they are made by
  -- operators of two operands that may follow one another in a chain.
  abbrev pub lefts : RvalueTree → Use → ℕ → List Laid
  lefts (Arithmetic o t a b) u k = laid n a Anywhere k ∷ lefts a Anywhere k
  lefts (Compare o t a b) u k = laid n a Anywhere k ∷ lefts a Anywhere k
  lefts (Move d of a b) u k = laid n a Anywhere k ∷ lefts a Anywhere k
  lefts (And a b) u k = laid n a Tested (behind_own u k) ∷ lefts a Tested (behind_own u k)
  lefts (Or a b) u k = laid n a Tested (behind_own u k) ∷ lefts a Tested (behind_own u k)
  lefts (Comma a b) u k = laid n a Nothing k ∷ lefts a Nothing k
  lefts _ u k = []
