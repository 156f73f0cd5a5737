-- Programs whose parameters are scalars (ISO/IEC 9899:2011, 6.7.6.3p7: an array that is declared as a parameter is a
-- pointer).
use Rattle.std.specs.Prelude.{Bool, true, false, ◌&&◌, List, [], ◌∷◌, drop, take}
use Rattle.c_tree.specs.declared.object_type.ObjectType.{ObjectType}
use Rattle.c_tree.specs.declared.object_type.ObjectType.TheVariants as of-object
use Rattle.c_tree.specs.Programs.{AutomaticTree, TypedFunctionTree}

-- a scalar's type
abbrev pub is_single : ObjectType → Bool
is_single (of-object.Scalar s) = true
is_single (of-object.Array s count) = false

-- variables that are scalars
abbrev pub are_single : List AutomaticTree → Bool
are_single [] = true
are_single (a ∷ more) = is_single a.of && are_single more

-- the parameters of functions are scalars
abbrev pub parameters_single : List AutomaticTree → List TypedFunctionTree → Bool
parameters_single all [] = true
parameters_single all (f ∷ more) =
    are_single (take f.parameters (drop f.first_variable all)) && parameters_single all more
