-- What stands at file scope (6.9), in text order.
use Rattle.std.specs.Prelude.{ℕ, List, [], ◌∷◌, ◌++◌, length}
use Rattle.c_tree.specs.Programs.{TypedFunctionTree}
use Rattle.c_tree.specs.Trees.{ItemTree, Include, Declares, Defines}
use Rattle.c_type_declarations.specs.Scopes.{empty_scope}
use Rattle.c_type_declarations.specs.Progress.{ProgressTree, Met, means, next_met}
use Rattle.c_type_declarations.specs.Declarations.{statics_met}
use Rattle.c_type.specs.Headers.{included}
use Rattle.c_type.specs.Functions.{defined, function_met}

-- the functions that an item defines
abbrev pub item_met : List (List ℕ) → ℕ → ItemTree → ProgressTree → Met (List TypedFunctionTree)
item_met names k (Include spot header) p = means [] (included spot header p)
item_met names k (Declares d) p = means [] (statics_met d.type d.declarators p)
item_met names k (Defines f) p = function_met names k f p

-- an item behind functions, and the functions with what it defines
abbrev pub behind_item : List (List ℕ) → List TypedFunctionTree → ItemTree → ProgressTree → Met (List TypedFunctionTree)
behind_item names fs i p = next_met (item_met names (length fs) i p) (λ more. means (fs ++ more))

-- the items of a program, one after the other, behind these functions
abbrev pub items_met : List (List ℕ) → List TypedFunctionTree → List ItemTree → ProgressTree
    → Met (List TypedFunctionTree)
items_met names fs [] p = means fs p
items_met names fs (i ∷ rest) p = next_met (behind_item names fs i p) (λ gs. items_met names gs rest)

-- before the first item nothing is declared
abbrev pub beginning : ProgressTree
beginning =
    record {
      names = record { signatures = []; scopes = empty_scope ∷ [] };
      found = record { faults = []; undefined = []; literals = [] };
      statics = [];
      automatics = [];
      array_literals = [];
    }

-- a source
abbrev pub source_met : List ItemTree → Met (List TypedFunctionTree)
source_met items = items_met (defined items) [] items beginning
