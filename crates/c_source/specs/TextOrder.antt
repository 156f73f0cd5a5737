-- Sources whose parts stand in the order of the text.
use Rattle.std.specs.Prelude.{◌≡◌, true, List, [], ◌∷◌, ◌++◌, map, Option, Some, None}
use Rattle.debug_records.specs.declared.source.Spot.{Spot}
use Rattle.c_tree.specs.Expressions.{NameTree, ExpressionTree, ExpressionTrees, Name, Constant, Literal, Parenthesized, Index, Call, PostIncrement, PostDecrement, Prefix, Cast, SizeofExpression, SizeofType, SizeofArray, Binary, Conditional, Assignment, Comma, none, first}
use Rattle.c_tree.specs.Declarations.{BracketsTree, Absent, Empty, Sized, InitializerTree, InitializerTrees, Braces, DeclaratorTree, ParameterTree}
use Rattle.c_tree.specs.Declarations as declaration
use Rattle.c_tree.specs.Statements.{StartTree, StatementTree, StatementTrees, BlockTree, Compound, Declare, Run, If, IfElse, While, DoWhile, For, Switch, Case, Default, Break, Continue, Return}
use Rattle.c_tree.specs.Statements as statement
use Rattle.c_tree.specs.Trees.{ItemTree, Include, Declares, Defines}
use Rattle.c_type_laws.specs.Orders.{ascends, never_falls}
use Rattle.c_type_laws.specs.Spots.{are_below}

abbrev mutual
  -- where the tokens of an expression stand that its tree tells, in the order of the text: its names, constants and
  -- literals, and what begins its parts
  pub spots_of : ExpressionTree → List Spot
  spots_of (Name n) = n.spot ∷ []
  spots_of (Constant spot value type) = spot ∷ []
  spots_of (Literal extent bytes) = extent.first ∷ []
  spots_of (Parenthesized extent e) = extent.first ∷ spots_of e
  spots_of (Index e i last) = spots_of e ++ spots_of i
  spots_of (Call e all last) = spots_of e ++ spots_of_all all
  spots_of (PostIncrement e last) = spots_of e
  spots_of (PostDecrement e last) = spots_of e
  spots_of (Prefix spot o e) = spot ∷ spots_of e
  spots_of (Cast spot to e) = spot ∷ spots_of e
  spots_of (SizeofExpression spot e) = spot ∷ spots_of e
  spots_of (SizeofType extent type stars) = extent.first ∷ []
  spots_of (SizeofArray extent type stars e) = extent.first ∷ spots_of e
  spots_of (Binary o a b) = spots_of a ++ spots_of b
  spots_of (Conditional c a b) = spots_of c ++ spots_of a ++ spots_of b
  spots_of (Assignment o a b) = spots_of a ++ spots_of b
  spots_of (Comma a b) = spots_of a ++ spots_of b

  -- those of the arguments of a call
  pub spots_of_all : ExpressionTrees → List Spot
  spots_of_all none = []
  spots_of_all (first e rest) = spots_of e ++ spots_of_all rest

-- those of an expression that may be absent
abbrev pub spots_if_any : Option ExpressionTree → List Spot
spots_if_any None = []
spots_if_any (Some e) = spots_of e

-- those of what stands behind a declarator's name
abbrev pub spots_of_brackets : BracketsTree → List Spot
spots_of_brackets Absent = []
spots_of_brackets Empty = []
spots_of_brackets (Sized e) = spots_of e

abbrev mutual
  -- those of an initializer
  pub spots_of_initializer : InitializerTree → List Spot
  spots_of_initializer (declaration.Value e) = spots_of e
  spots_of_initializer (Braces all) = spots_of_initializers all

  -- those of the initializers in braces
  pub spots_of_initializers : InitializerTrees → List Spot
  spots_of_initializers declaration.none = []
  spots_of_initializers (declaration.first i rest) = spots_of_initializer i ++ spots_of_initializers rest

-- those of an initializer that may be absent
abbrev pub spots_of_initial : Option InitializerTree → List Spot
spots_of_initial None = []
spots_of_initial (Some i) = spots_of_initializer i

-- those of a declarator: its name, its size, its initializer
abbrev pub spots_of_declarator : DeclaratorTree → List Spot
spots_of_declarator d = d.name.spot ∷ spots_of_brackets d.brackets ++ spots_of_initial d.initializer

-- those of the declarators of a declaration
abbrev pub spots_of_declarators : List DeclaratorTree → List Spot
spots_of_declarators [] = []
spots_of_declarators (d ∷ more) = spots_of_declarator d ++ spots_of_declarators more

-- those of the first part of a `for`
abbrev pub spots_of_start : StartTree → List Spot
spots_of_start statement.Nothing = []
spots_of_start (statement.Value e) = spots_of e
spots_of_start (statement.Declares d) = spots_of_declarators d.declarators

abbrev mutual
  -- those of a statement: what begins it, its braces, and those of its parts
  pub spots_of_statement : StatementTree → List Spot
  spots_of_statement (Compound opening all closing) = opening ∷ spots_of_statements all ++ closing ∷ []
  spots_of_statement (Declare d) = spots_of_declarators d.declarators
  spots_of_statement (statement.Empty spot) = spot ∷ []
  spots_of_statement (Run e last) = spots_of e
  spots_of_statement (If spot e s) = spot ∷ spots_of e ++ spots_of_statement s
  spots_of_statement (IfElse spot e s t) = spot ∷ spots_of e ++ spots_of_statement s ++ spots_of_statement t
  spots_of_statement (While spot e s) = spot ∷ spots_of e ++ spots_of_statement s
  spots_of_statement (DoWhile extent s e) = extent.first ∷ spots_of_statement s ++ spots_of e
  spots_of_statement (For spot start e step s) =
      spot ∷ spots_of_start start ++ spots_if_any e ++ spots_if_any step ++ spots_of_statement s
  spots_of_statement (Switch spot e opening all closing) =
      spot ∷ spots_of e ++ opening ∷ spots_of_statements all ++ closing ∷ []
  spots_of_statement (Case extent e s) = extent.first ∷ spots_of e ++ spots_of_statement s
  spots_of_statement (Default extent s) = extent.first ∷ spots_of_statement s
  spots_of_statement (Break extent) = extent.first ∷ []
  spots_of_statement (Continue extent) = extent.first ∷ []
  spots_of_statement (Return extent e) = extent.first ∷ spots_if_any e

  -- those of the statements of a block
  pub spots_of_statements : StatementTrees → List Spot
  spots_of_statements statement.none = []
  spots_of_statements (statement.first s rest) = spots_of_statement s ++ spots_of_statements rest

-- those of a parameter that may have no name
abbrev pub spots_of_name : Option NameTree → List Spot
spots_of_name None = []
spots_of_name (Some n) = n.spot ∷ []

-- those of parameters
abbrev pub spots_of_parameters : List ParameterTree → List Spot
spots_of_parameters [] = []
spots_of_parameters (d ∷ more) = spots_of_name d.name ++ spots_of_brackets d.brackets ++ spots_of_parameters more

-- those of a function's block, if it has one
abbrev pub spots_of_body : Option BlockTree → List Spot
spots_of_body None = []
spots_of_body (Some b) = b.opening ∷ spots_of_statements (statement.chain_of_statements b.statements) ++ b.closing ∷ []

-- those of what stands at file scope
abbrev pub spots_of_item : ItemTree → List Spot
spots_of_item (Include spot header) = spot ∷ []
spots_of_item (Declares d) = spots_of_declarators d.declarators
spots_of_item (Defines f) = f.name.spot ∷ spots_of_parameters f.parameters ++ spots_of_body f.body

-- those of a source
abbrev pub spots_of_items : List ItemTree → List Spot
spots_of_items [] = []
spots_of_items (i ∷ more) = spots_of_item i ++ spots_of_items more

-- Spots stand one behind the other: their offsets ascend, and their lines, which are counted from 1, do not fall.
pub record AreInOrder (spots : List Spot) : Type 0 where
  pub offsets : ascends (map (λ (s : Spot). s.at) spots) ≡ true
  pub lines : never_falls 1 (map (λ (s : Spot). s.line) spots) ≡ true

-- A source's tree stands in the order of the text.
abbrev pub IsInTextOrder : List ItemTree → Type 0
IsInTextOrder items = AreInOrder (spots_of_items items)

-- Spots stand within a text of no more than 1,048,576 bytes, on its lines, which are counted from 1.
pub record AreWithinText (spots : List Spot) : Type 0 where
  pub offsets : are_below 1048576 (map (λ (s : Spot). s.at) spots) ≡ true
  pub lines : are_below 1048577 (map (λ (s : Spot). s.line) spots) ≡ true
