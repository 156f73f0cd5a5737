-- Programs as contracts see them.
use Rattle.std.specs.Prelude.{ℕ, List, map, Bool, string_bytes}
use Rattle.debug_records.specs.declared.source.Spot.{Spot}
use Rattle.c_tree.specs.declared.object_type.ObjectType.{ObjectType}
use Rattle.c_tree.specs.declared.object_type.ValueType.{ValueType}
use Rattle.c_tree.specs.declared.program.Relocation.{Relocation}
use Rattle.c_tree.specs.declared.program.StaticVariable.{StaticVariable}
use Rattle.c_tree.specs.declared.program.AutomaticVariable.{AutomaticVariable}
use Rattle.c_tree.specs.declared.program.StringLiteral.{StringLiteral}
use Rattle.c_tree.specs.declared.program.TypedFunction.{TypedFunction}
use Rattle.c_tree.specs.declared.program.Program.{Program}
use Rattle.c_tree.specs.TypedStatements.{TypedStatementTrees, statements_view}

-- a named object of static storage: its first bytes, and the words in it that hold addresses
pub record StaticTree : Type 0 where
  pub name : List ℕ
  pub spot : Spot
  pub of : ObjectType
  pub bytes : List ℕ
  pub relocations : List Relocation

abbrev pub static_view : StaticVariable → StaticTree
static_view v =
    record {
      name = string_bytes v.name;
      spot = v.spot;
      of = v.of;
      bytes = v.bytes.items;
      relocations = v.relocations.items;
    }

-- a named object of automatic storage
pub record AutomaticTree : Type 0 where
  pub name : List ℕ
  pub spot : Spot
  pub of : ObjectType
  pub in_memory : Bool

abbrev pub automatic_view : AutomaticVariable → AutomaticTree
automatic_view v = record { name = string_bytes v.name; spot = v.spot; of = v.of; in_memory = v.in_memory }

-- a string literal with its final zero
pub record LiteralTree : Type 0 where
  pub spot : Spot
  pub bytes : List ℕ

abbrev pub literal_view : StringLiteral → LiteralTree
literal_view l = record { spot = l.spot; bytes = l.bytes.items }

-- a function's definition: its automatic variables are so many from the first on, and its parameters come first among
-- them
pub record TypedFunctionTree : Type 0 where
  pub name : List ℕ
  pub spot : Spot
  pub result : ValueType
  pub first_variable : ℕ
  pub parameters : ℕ
  pub variables : ℕ
  pub body : TypedStatementTrees
  pub close : Spot
  pub weight : ℕ

abbrev pub function_view : TypedFunction → TypedFunctionTree
function_view f =
    record {
      name = string_bytes f.name;
      spot = f.spot;
      result = f.result;
      first_variable = f.first_variable;
      parameters = f.parameters;
      variables = f.variables;
      body = statements_view f.body;
      close = f.close;
      weight = f.weight;
    }

-- a program that the compiler accepts
pub record ProgramTree : Type 0 where
  pub functions : List TypedFunctionTree
  pub main : ℕ
  pub statics : List StaticTree
  pub automatics : List AutomaticTree
  pub literals : List LiteralTree
  pub array_literals : List LiteralTree
  pub weight : ℕ

abbrev pub program_view : Program → ProgramTree
program_view p =
    record {
      functions = map function_view p.functions.items;
      main = p.main;
      statics = map static_view p.statics.items;
      automatics = map automatic_view p.automatics.items;
      literals = map literal_view p.literals.items;
      array_literals = map literal_view p.array_literals.items;
      weight = p.weight;
    }
