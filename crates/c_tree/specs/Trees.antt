-- The tree of a source as contracts see it.
use Rattle.std.specs.Prelude.{ℕ, List, map, Option}
use Rattle.std.specs.Option.{option_map}
use Rattle.debug_records.specs.declared.source.Spot.{Spot}
use Rattle.c_tree.specs.declared.extent.Extent.{Extent}
use Rattle.c_tree.specs.declared.types.Base.{Base}
use Rattle.c_tree.specs.declared.declaration.Function.{Function}
use Rattle.c_tree.specs.declared.declaration.Header.{Header}
use Rattle.c_tree.specs.declared.declaration.Item.{Item}
use Rattle.c_tree.specs.declared.declaration.Item.TheVariants as item
use Rattle.c_tree.specs.declared.declaration.Tree.{Tree}
use Rattle.c_tree.specs.Expressions.{NameTree, identifier_view}
use Rattle.c_tree.specs.Declarations.{DeclarationTree, declaration_view, ParameterTree, parameter_view}
use Rattle.c_tree.specs.Statements.{BlockTree, block_view}

-- a function that is declared or defined: its result, its name, its parameters and its body, if it has one
pub record FunctionTree : Type 0 where
  pub extent : Extent
  pub base : Base
  pub stars : ℕ
  pub name : NameTree
  pub parameters : List ParameterTree
  pub body : Option BlockTree

abbrev pub function_view : Function → FunctionTree
function_view f =
    record {
      extent = f.extent;
      base = f.base;
      stars = f.stars;
      name = identifier_view f.identifier;
      parameters = map parameter_view f.parameters.items;
      body = option_map block_view f.body;
    }

-- what stands at file scope
pub data ItemTree : Type 0 where
  Include : Spot → Header → ItemTree
  Declares : DeclarationTree → ItemTree
  Defines : FunctionTree → ItemTree

abbrev pub item_view : Item → ItemTree
item_view (item.Include spot header) = Include spot header
item_view (item.Declaration d) = Declares (declaration_view d)
item_view (item.Function f) = Defines (function_view f)

-- a tree is its items in text order
abbrev pub tree_view : Tree → List ItemTree
tree_view t = map item_view t.items.items
