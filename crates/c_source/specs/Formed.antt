-- Trees as the grammar forms them: constant tokens are numbers of their types, and no declaration stands where a
-- statement has to (ISO/IEC 9899:2011, 6.4.4.1 and 6.8).
use Rattle.std.specs.Prelude.{◌≡◌, List, [], ◌∷◌, Bool, true, false, Option, Some, None}
use Rattle.c_tree.specs.Expressions.{ExpressionTree}
use Rattle.c_tree.specs.Declarations.{BracketsTree, Absent, Empty, Sized, InitializerTree, InitializerTrees, Braces, DeclaratorTree}
use Rattle.c_tree.specs.Declarations as declaration
use Rattle.c_tree.specs.Statements.{StartTree, StatementTree, StatementTrees, Compound, Declare, Run, If, IfElse, While, DoWhile, For, Switch, Case, Default, Break, Continue, Return}
use Rattle.c_tree.specs.Statements as statement
use Rattle.c_type_laws.specs.Names.{is_name}
use Rattle.c_source.specs.Constants.{HasNumbers}

-- an expression that may be absent
abbrev pub HasNumbersIfAny : Option ExpressionTree → Type 0
HasNumbersIfAny None = Unit {0}
HasNumbersIfAny (Some e) = HasNumbers e

-- what stands behind a declarator's name
abbrev pub IsSizeFormed : BracketsTree → Type 0
IsSizeFormed Absent = Unit {0}
IsSizeFormed Empty = Unit {0}
IsSizeFormed (Sized e) = HasNumbers e

abbrev mutual
  -- an initializer
  pub IsInitializerFormed : InitializerTree → Type 0
  IsInitializerFormed (declaration.Value e) = HasNumbers e
  IsInitializerFormed (Braces all) = AreInitializersFormed all

  -- those in braces
  pub AreInitializersFormed : InitializerTrees → Type 0
  AreInitializersFormed declaration.none = Unit {0}
  AreInitializersFormed (declaration.first i rest) = IsInitializerFormed i × AreInitializersFormed rest

-- an initializer that may be absent
abbrev pub IsInitialFormed : Option InitializerTree → Type 0
IsInitialFormed None = Unit {0}
IsInitialFormed (Some i) = IsInitializerFormed i

-- a declarator, which has a name
abbrev pub IsDeclaratorFormed : DeclaratorTree → Type 0
IsDeclaratorFormed d = IsSizeFormed d.brackets × IsInitialFormed d.initializer × (is_name d.name.name ≡ true)

-- declarators
abbrev pub AreDeclaratorsFormed : List DeclaratorTree → Type 0
AreDeclaratorsFormed [] = Unit {0}
AreDeclaratorsFormed (d ∷ more) = IsDeclaratorFormed d × AreDeclaratorsFormed more

-- the first part of a `for`
abbrev pub IsStartFormed : StartTree → Type 0
IsStartFormed statement.Nothing = Unit {0}
IsStartFormed (statement.Value e) = HasNumbers e
IsStartFormed (statement.Declares d) = AreDeclaratorsFormed d.declarators

-- a statement, and no declaration
abbrev pub is_no_declaration : StatementTree → Bool
is_no_declaration (Declare d) = false
is_no_declaration _ = true

-- statements of which none is a declaration
abbrev pub declare_nothing : StatementTrees → Type 0
declare_nothing statement.none = Unit {0}
declare_nothing (statement.first s rest) = (is_no_declaration s ≡ true) × declare_nothing rest

abbrev mutual
  -- a statement or a declaration; the body of a statement is no declaration, nor is what stands behind a label
  pub IsFormed : StatementTree → Type 0
  IsFormed (Compound opening all closing) = AreFormed all
  IsFormed (Declare d) = AreDeclaratorsFormed d.declarators
  IsFormed (statement.Empty spot) = Unit {0}
  IsFormed (Run e last) = HasNumbers e
  IsFormed (If spot e s) = HasNumbers e × IsFormed s × (is_no_declaration s ≡ true)
  IsFormed (IfElse spot e s t) =
      HasNumbers e × IsFormed s × IsFormed t × (is_no_declaration s ≡ true) × (is_no_declaration t ≡ true)
  IsFormed (While spot e s) = HasNumbers e × IsFormed s × (is_no_declaration s ≡ true)
  IsFormed (DoWhile extent s e) = IsFormed s × HasNumbers e × (is_no_declaration s ≡ true)
  IsFormed (For spot start e step s) =
      IsStartFormed start × HasNumbersIfAny e × HasNumbersIfAny step × IsFormed s × (is_no_declaration s ≡ true)
  IsFormed (Switch spot e opening all closing) = HasNumbers e × AreFormed all × declare_nothing all
  IsFormed (Case extent e s) = HasNumbers e × IsFormed s × (is_no_declaration s ≡ true)
  IsFormed (Default extent s) = IsFormed s × (is_no_declaration s ≡ true)
  IsFormed (Break extent) = Unit {0}
  IsFormed (Continue extent) = Unit {0}
  IsFormed (Return extent e) = HasNumbersIfAny e

  -- those of a block
  pub AreFormed : StatementTrees → Type 0
  AreFormed statement.none = Unit {0}
  AreFormed (statement.first s rest) = IsFormed s × AreFormed rest
