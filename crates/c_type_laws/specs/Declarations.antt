-- Which variables the declarators of statements declare, in text order. Each definition puts them behind others.
use Rattle.std.specs.Prelude.{ℕ, List, [], ◌∷◌, ◌++◌}
use Rattle.c_tree.specs.TypedStatements as statement
use Rattle.c_tree.specs.TypedStatements.{DeclaredTree, TypedStartTree, Nothing, Value, Declares, TypedStatementTree, Block, Declaration, Empty, Run, If, IfElse, While, DoWhile, For, Switch, Break, Continue, Return, TypedStatementTrees, case, default}

abbrev pub declared_by : List DeclaredTree → List ℕ → List ℕ
declared_by [] vs = vs
declared_by (d ∷ more) vs = declared_by more (vs ++ d.variable ∷ [])

abbrev pub declared_by_start : TypedStartTree → List ℕ → List ℕ
declared_by_start Nothing vs = vs
declared_by_start (Value spot e) vs = vs
declared_by_start (Declares all) vs = declared_by all vs

abbrev mutual
  -- of a statement
  pub declared_in : TypedStatementTree → List ℕ → List ℕ
  declared_in (Block all) vs = declared_in_all all vs
  declared_in (Declaration all) vs = declared_by all vs
  declared_in (Empty spot) vs = vs
  declared_in (Run spot e) vs = vs
  declared_in (If spot e s) vs = declared_in s vs
  declared_in (IfElse spot e s t) vs = declared_in t (declared_in s vs)
  declared_in (While spot e s) vs = declared_in s vs
  declared_in (DoWhile s spot e) vs = declared_in s vs
  declared_in (For start spot e step s) vs = declared_in s (declared_by_start start vs)
  declared_in (Switch spot e all) vs = declared_in_all all vs
  declared_in (Break spot) vs = vs
  declared_in (Continue spot) vs = vs
  declared_in (Return spot e) vs = vs

  -- of statements
  pub declared_in_all : TypedStatementTrees → List ℕ → List ℕ
  declared_in_all statement.none vs = vs
  declared_in_all (statement.first s rest) vs = declared_in_all rest (declared_in s vs)
  declared_in_all (case z rest) vs = declared_in_all rest vs
  declared_in_all (default rest) vs = declared_in_all rest vs
