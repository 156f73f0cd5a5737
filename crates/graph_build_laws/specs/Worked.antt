-- A program that weighs as many nodes as it has, and whose graph has more than two instructions for each unit of that
-- weight: conversions that follow one another are no nodes.
use Rattle.std.specs.Prelude.{◌≡◌, ℕ, zero, suc, ◌+◌, ◌*◌, ◌<◌, ◌≤◌, true, false, Some, List, [], ◌∷◌, codes}
use Rattle.debug_records.specs.declared.source.Spot.{Spot}
use Rattle.c_tree.specs.declared.types.IntegerType.TheVariants.{Int, SignedChar, UnsignedChar}
use Rattle.c_tree.specs.declared.object_type.Scalar.{Scalar}
use Rattle.c_tree.specs.declared.object_type.ObjectType.TheVariants as type
use Rattle.c_tree.specs.declared.object_type.ValueType.TheVariants as result
use Rattle.c_tree.specs.declared.object_type.Object.TheVariants.{Static}
use Rattle.c_tree.specs.TypedExpressions.{RvalueTree, Load, Convert, Named}
use Rattle.c_tree.specs.TypedStatements.{Return, none, first}
use Rattle.c_tree.specs.Programs.{StaticTree, TypedFunctionTree, ProgramTree}
use Rattle.c_type_laws.specs.Nodes.{statements_nodes}
use Rattle.c_type_laws.specs.Laws.{IsWellFormed}
use Rattle.graph_core.specs.Validity.{instructions_of}
use Rattle.graph_build.specs.Units.{graph_of}

abbrev pub spot : ℕ → Spot
spot at = record { at = at; line = 1 }

abbrev pub int : Scalar
int = record { base = Int; stars = 0 }

-- `(signed char)(unsigned char)` so often before an expression
abbrev pub converted : ℕ → RvalueTree → RvalueTree
converted zero e = e
converted (suc n) e = Convert SignedChar (Convert UnsignedChar (converted n e))

-- `int g; int main() { return (signed char)(unsigned char) .. g; }`
abbrev pub converting_main : TypedFunctionTree
converting_main = record {
  name = codes "main";
  spot = spot 11;
  result = result.Integer Int;
  first_variable = 0;
  parameters = 0;
  variables = 0;
  body =
      first (Return (spot 20) (Some (Convert Int (converted 5 (Load int (Named (Static 0) (type.Scalar int))))))) none;
  close = spot 90;
  weight = 4;
}

abbrev pub converting : ProgramTree
converting = record {
  functions = converting_main ∷ [];
  main = 0;
  statics = record { name = codes "g"; spot = spot 4; of = type.Scalar int; bytes = []; relocations = [] } ∷ [];
  automatics = [];
  literals = [];
  array_literals = [];
  weight = 4;
}

-- It weighs as many nodes as it has, its graph has more instructions than two for each unit of that weight, and it is
-- not well formed.
pub record IsConverting : Type 0 where
  pub nodes : 2 + converting_main.parameters + statements_nodes converting_main.body ≤ converting_main.weight
  pub more : 2 * converting_main.weight < instructions_of (graph_of converting converting_main true)
  pub refused : ¬ IsWellFormed converting
