-- Declarations as contracts see them.
use Rattle.std.specs.Prelude.{ℕ, List, [], ◌∷◌, map, Option}
use Rattle.std.specs.Option.{option_map}
use Rattle.c_tree.specs.declared.extent.Extent.{Extent}
use Rattle.c_tree.specs.declared.types.IntegerType.{IntegerType}
use Rattle.c_tree.specs.declared.declaration.Brackets.{Brackets}
use Rattle.c_tree.specs.declared.declaration.Brackets.TheVariants as brackets
use Rattle.c_tree.specs.declared.declaration.Declaration.{Declaration}
use Rattle.c_tree.specs.declared.declaration.Declarator.{Declarator}
use Rattle.c_tree.specs.declared.declaration.Initializer.{Initializer}
use Rattle.c_tree.specs.declared.declaration.Initializer.TheOpen.{Initializer-F}
use Rattle.c_tree.specs.declared.declaration.Initializer.TheFolds.{fold-Initializer}
use Rattle.c_tree.specs.declared.declaration.Parameter.{Parameter}
use Rattle.c_tree.specs.Expressions.{NameTree, identifier_view, ExpressionTree, expression_view}

-- what stands behind a declarator's name: nothing, `[]`, or a size in brackets
pub data BracketsTree : Type 0 where
  Absent : BracketsTree
  Empty : BracketsTree
  Sized : ExpressionTree → BracketsTree

abbrev pub brackets_view : Brackets → BracketsTree
brackets_view brackets.Absent = Absent
brackets_view brackets.Empty = Empty
brackets_view (brackets.Sized size) = Sized (expression_view size)

mutual
  -- an expression, or a list in braces
  pub data InitializerTree : Type 0 where
    Value : ExpressionTree → InitializerTree
    Braces : InitializerTrees → InitializerTree

  -- the initializers of a list, in the order of the source
  pub data InitializerTrees : Type 0 where
    none : InitializerTrees
    first : InitializerTree → InitializerTrees → InitializerTrees

-- the initializers in braces, in a list of the tree's own
abbrev pub chain_of_initializers : List InitializerTree → InitializerTrees
chain_of_initializers [] = none
chain_of_initializers (i ∷ more) = first i (chain_of_initializers more)

-- one initializer, with the trees of its parts in their places
abbrev pub initializer_step : Initializer-F InitializerTree → InitializerTree
initializer_step (Initializer-F.Expression value) = Value (expression_view value)
initializer_step (Initializer-F.List initializers) = Braces (chain_of_initializers initializers.items)

abbrev pub initializer_view : Initializer → InitializerTree
initializer_view = fold-Initializer InitializerTree initializer_step

-- what is declared of one variable: its stars, its name, its brackets and its initializer, if it has one
pub record DeclaratorTree : Type 0 where
  pub extent : Extent
  pub stars : ℕ
  pub name : NameTree
  pub brackets : BracketsTree
  pub initializer : Option InitializerTree

abbrev pub declarator_view : Declarator → DeclaratorTree
declarator_view d =
    record {
      extent = d.extent;
      stars = d.stars;
      name = identifier_view d.identifier;
      brackets = brackets_view d.brackets;
      initializer = option_map initializer_view d.initializer;
    }

-- a declaration: its type, and the variables that it declares
pub record DeclarationTree : Type 0 where
  pub extent : Extent
  pub type : IntegerType
  pub declarators : List DeclaratorTree

abbrev pub declaration_view : Declaration → DeclarationTree
declaration_view d =
    record { extent = d.extent; type = d.integer_type; declarators = map declarator_view d.declarators.items }

-- a parameter: its type, its stars, its name, if it has one, and its brackets
pub record ParameterTree : Type 0 where
  pub extent : Extent
  pub type : IntegerType
  pub stars : ℕ
  pub name : Option NameTree
  pub brackets : BracketsTree

abbrev pub parameter_view : Parameter → ParameterTree
parameter_view p =
    record {
      extent = p.extent;
      type = p.integer_type;
      stars = p.stars;
      name = option_map identifier_view p.identifier;
      brackets = brackets_view p.brackets;
    }
