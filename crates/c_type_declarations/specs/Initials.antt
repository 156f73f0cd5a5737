-- What initializers of automatic objects write (6.7.9). Their rules are the declarator's.
use Rattle.std.specs.Prelude.{ℕ, nat_lt, List, [], ◌∷◌, ◌++◌, length, Bool, Option, Some, None, if◌then◌else◌}
use Rattle.std.specs.Option.{option_map_or}
use Rattle.debug_records.specs.declared.source.Spot.{Spot}
use Rattle.debug_records.specs.declared.code.TheConstants.Code.{INITIALIZER}
use Rattle.c_tree.specs.declared.extent.Extent.{Extent}
use Rattle.c_tree.specs.declared.object_type.Scalar.{Scalar}
use Rattle.c_tree.specs.declared.object_type.ObjectType.{ObjectType}
use Rattle.c_tree.specs.declared.object_type.ObjectType.TheVariants as object
use Rattle.c_tree.specs.Expressions.{ExpressionTree}
use Rattle.c_tree.specs.Declarations.{InitializerTree, Value, Braces, InitializerTrees, none, first}
use Rattle.c_tree.specs.TypedExpressions.{RvalueTree, Null}
use Rattle.c_tree.specs.TypedStatements as typed-tree
use Rattle.c_tree.specs.TypedStatements.{InitialTree, Zero}
use Rattle.c_type_rules.specs.Types.{loaded_type}
use Rattle.c_type_values.specs.Values.{ValueTree, converted_value}
use Rattle.c_type_expressions.specs.Expressions.{is_zero}
use Rattle.c_type_declarations.specs.Progress.{ProgressTree, Met, means, next_met, reached_by, value_met, breaks}
use Rattle.c_type_declarations.specs.Objects.{literal_for, only_in, count}

-- a value, or E27
abbrev pub or_misfit : Option ValueTree → Extent → ProgressTree → Met (Option ValueTree)
or_misfit (Some v) extent p = means (Some v) p
or_misfit None extent p = means None (breaks INITIALIZER extent p)

-- a value as if assigned to an object of a scalar type (E27)
abbrev pub fitted : Scalar → Extent → Bool → Option ValueTree → ProgressTree → Met (Option ValueTree)
fitted s extent zero (Some v) p = or_misfit (converted_value v (loaded_type s) zero) extent p
fitted s extent zero None p = means None p

-- the value that initialises a scalar, and a fault where it does not fit (C11 6.7.9 p11)
abbrev pub fitting : Scalar → Extent → ExpressionTree → ProgressTree → Met (Option ValueTree)
fitting s extent e p = next_met (value_met e p) (fitted s extent (is_zero e))

-- expressions in braces that initialise nothing, of which only the own faults count
abbrev pub looked_at_one : InitializerTree → ProgressTree → ProgressTree
looked_at_one (Braces all) p = p
looked_at_one (Value e) p = reached_by (value_met e p) (λ v q. q)

-- initializers that are too many are checked, and nothing else becomes of them
abbrev pub looked_at : InitializerTrees → ProgressTree → ProgressTree
looked_at none p = p
looked_at (first i more) p = looked_at more (looked_at_one i p)

-- an expression where a list has to stand (E27)
abbrev pub misfit_met : Extent → ExpressionTree → ProgressTree → ProgressTree
misfit_met extent e p = reached_by (value_met e p) (λ v. breaks INITIALIZER extent)

-- an initializer of a scalar: an expression, perhaps in braces of its own (E27)
abbrev pub braces_met : Scalar → Extent → Option ExpressionTree → InitializerTrees → ProgressTree
    → Met (Option ValueTree)
braces_met s extent (Some e) all p = fitting s extent e p
braces_met s extent None all p = means None (looked_at all (breaks INITIALIZER extent p))

-- what initialises a scalar: an expression, or one in braces
abbrev pub scalar_met : Scalar → Extent → InitializerTree → ProgressTree → Met (Option ValueTree)
scalar_met s extent (Value e) p = fitting s extent e p
scalar_met s extent (Braces all) p = braces_met s extent (only_in all) all p

-- what an expression computes; of one at fault nothing
abbrev pub computed_tree : Option ValueTree → RvalueTree
computed_tree (Some v) = v.tree
computed_tree None = Null

-- initializers of elements, in order
abbrev pub elements_met : Scalar → Extent → InitializerTrees → ProgressTree → Met (List RvalueTree)
elements_met s extent none p = means [] p
elements_met s extent (first i more) p =
    next_met (scalar_met s extent i p)
    (λ v q. next_met (elements_met s extent more q) (λ vs. means (computed_tree v ∷ vs)))

-- there are no more initializers than elements (E27)
abbrev pub within_count : ℕ → ℕ → Extent → ProgressTree → ProgressTree
within_count given size extent p = if nat_lt size given then breaks INITIALIZER extent p else p

-- a literal that initialises an automatic array: all its bytes, but perhaps for the final zero, have room (E27)
abbrev pub with_array_literal : Spot → List ℕ → ProgressTree → ProgressTree
with_array_literal spot bytes p =
    record p { array_literals = p.array_literals ++ record { spot = spot; bytes = bytes ++ 0 ∷ [] } ∷ [] }

-- what initialises an array of characters by a string literal (C11 6.7.9 p14)
abbrev pub array_literal_met : ℕ → Extent → Spot × List ℕ → ProgressTree → Met InitialTree
array_literal_met size extent l p =
    means (typed-tree.Literal (length p.array_literals))
    (with_array_literal l.0 l.1 (within_count (length l.1) size extent p))

-- an array's initializer: a list in braces (E27)
abbrev pub list_met : Scalar → ℕ → Extent → InitializerTree → ProgressTree → Met InitialTree
list_met element size extent (Braces all) p =
    next_met (elements_met element extent all (within_count (count all) size extent p))
    (λ vs. means (typed-tree.Elements vs))
list_met element size extent (Value e) p = means Zero (misfit_met extent e p)

-- what an initializer writes into an automatic object
abbrev pub written_met : ObjectType → Extent → InitializerTree → ProgressTree → Met InitialTree
written_met (object.Scalar s) extent i p =
    next_met (scalar_met s extent i p) (λ v. means (typed-tree.Scalar (computed_tree v)))
written_met (object.Array element size) extent i p =
    option_map_or (λ l. array_literal_met size extent l p) (literal_for element i) (list_met element size extent i p)

-- what initialises an automatic variable that is declared, zeros where nothing is said
abbrev pub initial_met : ObjectType → Extent → Option InitializerTree → ProgressTree → Met InitialTree
initial_met of extent (Some i) p = written_met of extent i p
initial_met of extent None p = means Zero p
