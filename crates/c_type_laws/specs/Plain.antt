-- A declaration stands in a block, never alone as the body of an `if`, an `else` or a loop (ISO/IEC 9899:2011, 6.8.4
-- and 6.8.5: these bodies are statements).
use Rattle.std.specs.Prelude.{◌&&◌, Bool, true, false}
use Rattle.c_tree.specs.TypedStatements as statement
use Rattle.c_tree.specs.TypedStatements.{TypedStatementTree, Block, Declaration, Empty, Run, If, IfElse, While, DoWhile, For, Switch, Break, Continue, Return, TypedStatementTrees, case, default}

-- whether a statement may be such a body: it is no declaration
abbrev pub is_body : TypedStatementTree → Bool
is_body (Block all) = true
is_body (Declaration all) = false
is_body (Empty spot) = true
is_body (Run spot e) = true
is_body (If spot e s) = true
is_body (IfElse spot e s t) = true
is_body (While spot e s) = true
is_body (DoWhile s spot e) = true
is_body (For start spot e step s) = true
is_body (Switch spot e all) = true
is_body (Break spot) = true
is_body (Continue spot) = true
is_body (Return spot e) = true

abbrev mutual
  -- within a statement, no declaration is such a body
  pub is_plain : TypedStatementTree → Bool
  is_plain (Block all) = are_plain all
  is_plain (Declaration all) = true
  is_plain (Empty spot) = true
  is_plain (Run spot e) = true
  is_plain (If spot e s) = is_body s && is_plain s
  is_plain (IfElse spot e s t) = is_body s && is_plain s && is_body t && is_plain t
  is_plain (While spot e s) = is_body s && is_plain s
  is_plain (DoWhile s spot e) = is_body s && is_plain s
  is_plain (For start spot e step s) = is_body s && is_plain s
  is_plain (Switch spot e all) = are_plain all
  is_plain (Break spot) = true
  is_plain (Continue spot) = true
  is_plain (Return spot e) = true

  -- within statements
  pub are_plain : TypedStatementTrees → Bool
  are_plain statement.none = true
  are_plain (statement.first s rest) = is_plain s && are_plain rest
  are_plain (case z rest) = are_plain rest
  are_plain (default rest) = are_plain rest
