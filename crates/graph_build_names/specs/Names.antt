-- The names and objects of a function's code, by its variables.
use Rattle.std.specs.Prelude.{ℕ, ◌+◌, ◌-◌, nat_le, Bool, Option, Some, None, List, [], ◌∷◌, drop, length, slice_get, take, if◌then◌else◌}
use Rattle.c_tree.specs.declared.object_type.ValueType.{ValueType}
use Rattle.c_tree.specs.declared.object_type.Object.TheVariants as object
use Rattle.c_tree.specs.TypedExpressions.{LvalueTree, Named}
use Rattle.c_tree.specs.Programs.{AutomaticTree, TypedFunctionTree, ProgramTree}
use Rattle.c_type_rules.specs.ValueTypes.{results_of}
use Rattle.graph_core.specs.Graphs.{Location, Automatic, Static}
use Rattle.graph_build_names.specs.declared.names.Home.{Home}
use Rattle.graph_build_names.specs.declared.names.Home.TheVariants as home
use Rattle.graph_build_names.specs.declared.names.Names as declared-names

-- What a function's code names: where each of its variables is kept, from the first one on; how many static variables
-- stand before the literals; and the types of what functions give. Temporaries are used again only where a fresh one
-- for each result would be more names than the function weighs.
pub record Names : Type 0 where
  pub first : ℕ
  pub homes : List Home
  pub statics : ℕ
  pub results : List ValueType
  pub again : Bool

abbrev pub names_view : declared-names.Names → Names
names_view n =
    record { first = n.first; homes = n.homes.items; statics = n.statics; results = n.results.items; again = n.again }

-- Scalars and objects are numbered apart, each in the order of the variables.
abbrev pub homes_from : (scalars objects : ℕ) → List AutomaticTree → List Home
homes_from scalars objects [] = []
homes_from scalars objects (a ∷ more) =
    if a.in_memory then home.Object objects ∷ homes_from scalars (objects + 1) more
    else home.Scalar scalars ∷ homes_from (scalars + 1) objects more

-- where so many variables are kept, from one on
abbrev pub homes_of : List AutomaticTree → (first count : ℕ) → List Home
homes_of all first count = homes_from 0 0 (take count (drop first all))

-- the names of a function of a program
abbrev pub names_of : ProgramTree → TypedFunctionTree → (again : Bool) → Names
names_of p f again = record {
  first = f.first_variable;
  homes = homes_of p.automatics f.first_variable f.variables;
  statics = length p.statics;
  results = results_of p.functions;
  again = again;
}

-- the number of the scalar that a variable is, if it is one
abbrev pub scalar_in : Option Home → Option ℕ
scalar_in (Some (home.Scalar x)) = Some x
scalar_in (Some (home.Object o)) = None
scalar_in None = None

-- the number of the object that a variable is, if it is one
abbrev pub object_in : Option Home → Option ℕ
object_in (Some (home.Scalar x)) = None
object_in (Some (home.Object o)) = Some o
object_in None = None

module _ (n : Names) where
  -- where a variable is kept
  abbrev pub home_of : ℕ → Option Home
  home_of v = if nat_le n.first v then slice_get n.homes (v - n.first) else None

  -- the name of a variable that is a scalar
  abbrev pub scalar_of : ℕ → Option ℕ
  scalar_of v = scalar_in (home_of v)

  -- the number of the object of a variable in memory
  abbrev pub object_of : ℕ → Option ℕ
  object_of v = object_in (home_of v)

  -- the name of the scalar that an lvalue names
  abbrev pub scalar_named : LvalueTree → Option ℕ
  scalar_named (Named (object.Automatic v) of) = scalar_of v
  scalar_named _ = None

  -- a name where names are used again, and else another one
  abbrev pub pick : (again fresh : ℕ) → ℕ
  pick again fresh = if n.again then again else fresh

-- the beginning of an automatic object
abbrev pub object_location : Option ℕ → Location
object_location None = Static 0
object_location (Some k) = Automatic k 0
