-- When statements are well typed, and stand where they may (ISO/IEC 9899:2011, 6.7.9 and 6.8).
use Rattle.std.specs.Prelude.{ℕ, ◌+◌, ◌==◌, ◌&&◌, not, nat_le, nat_lt, Bool, true, false, Option, Some, None, List, [], ◌∷◌, length, slice_get, if◌then◌else◌}
use Rattle.debug_records.specs.declared.source.Spot.{Spot}
use Rattle.c_tree.specs.declared.types.IntegerType.{IntegerType}
use Rattle.c_tree.specs.declared.object_type.Scalar.{Scalar}
use Rattle.c_tree.specs.declared.object_type.ObjectType.{ObjectType}
use Rattle.c_tree.specs.declared.object_type.ObjectType.TheVariants as of-object
use Rattle.c_tree.specs.declared.object_type.ValueType.{ValueType}
use Rattle.c_tree.specs.declared.object_type.ValueType.TheVariants.{Void, Integer, Pointer}
use Rattle.c_tree.specs.TypedExpressions.{RvalueTree}
use Rattle.c_tree.specs.TypedStatements as statement
use Rattle.c_tree.specs.TypedStatements.{InitialTree, Zero, Scalar as scalar-initial, Elements, Literal, DeclaredTree, TypedStartTree, Nothing, Value, Declares, StepTree, TypedStatementTree, Block, Declaration, Empty, Run, If, IfElse, While, DoWhile, For, Switch, Break, Continue, Return, TypedStatementTrees, case, default}
use Rattle.c_tree.specs.Programs.{AutomaticTree, LiteralTree, TypedFunctionTree, ProgramTree}
use Rattle.c_type_rules.specs.Integers.{fits, scalar_size}
use Rattle.c_type_rules.specs.Types.{loaded_type}
use Rattle.c_type_laws.specs.Kind.{Kind, Wrong, NullPointer, Of}
use Rattle.c_type_laws.specs.Kinds.{is_of, is_typed, is_scalar, is_promoted}
use Rattle.c_type_laws.specs.Expressions.{kind_of}

abbrev pub same_spot : Spot → Spot → Bool
same_spot a b = a.at == b.at && a.line == b.line

-- the bytes of a string literal fit an array of characters, but perhaps for the final zero
abbrev pub literal_fits : Option LiteralTree → Scalar → (count : ℕ) → Bool
literal_fits None element count = false
literal_fits (Some l) element count = scalar_size element == 1 && nat_le (length l.bytes) (count + 1)

-- the promoted integer type that a `switch` tests, if it is one
abbrev pub tested_type : Kind → Option IntegerType
tested_type Wrong = None
tested_type NullPointer = None
tested_type (Of Void) = None
tested_type (Of (Integer t)) = if is_promoted t then Some t else None
tested_type (Of (Pointer of)) = None

-- the number of a label is of the type that a `switch` tests
abbrev pub is_label : Option IntegerType → Rattle.std.specs.Prelude.ℤ → Bool
is_label None z = false
is_label (Some t) z = fits t z

-- a label stands in the block of a `switch`
abbrev pub is_switch : Option IntegerType → Bool
is_switch None = false
is_switch (Some t) = true

-- no declaration stands directly in the block of a `switch`
abbrev pub may_stand : Option IntegerType → TypedStatementTree → Bool
may_stand None s = true
may_stand (Some t) (Declaration all) = false
may_stand (Some t) (Block all) = true
may_stand (Some t) (Empty spot) = true
may_stand (Some t) (Run spot e) = true
may_stand (Some t) (If spot e s) = true
may_stand (Some t) (IfElse spot e s r) = true
may_stand (Some t) (While spot e s) = true
may_stand (Some t) (DoWhile s spot e) = true
may_stand (Some t) (For start spot e step s) = true
may_stand (Some t) (Switch spot e all) = true
may_stand (Some t) (Break spot) = true
may_stand (Some t) (Continue spot) = true
may_stand (Some t) (Return spot e) = true

abbrev pub is_void : ValueType → Bool
is_void Void = true
is_void (Integer t) = false
is_void (Pointer of) = false

module _ (p : ProgramTree) (f : TypedFunctionTree) where
  -- values are of the element type
  abbrev pub are_elements : Scalar → List RvalueTree → Bool
  are_elements s [] = true
  are_elements s (e ∷ more) = is_of (kind_of p f e) (loaded_type s) && are_elements s more

  -- what a declaration writes fits its object
  abbrev pub initialises : ObjectType → InitialTree → Bool
  initialises of Zero = true
  initialises (of-object.Scalar s) (scalar-initial e) = is_of (kind_of p f e) (loaded_type s)
  initialises (of-object.Array s count) (scalar-initial e) = false
  initialises (of-object.Scalar s) (Elements all) = false
  initialises (of-object.Array s count) (Elements all) = nat_le (length all) count && are_elements s all
  initialises (of-object.Scalar s) (Literal n) = false
  initialises (of-object.Array s count) (Literal n) = literal_fits (slice_get p.array_literals n) s count

  abbrev pub declares_as : DeclaredTree → Option AutomaticTree → Bool
  declares_as d None = false
  declares_as d (Some a) = same_spot d.spot a.spot && initialises a.of d.initial

  -- a declarator is of a variable of the function that is no parameter
  abbrev pub is_declared : DeclaredTree → Bool
  is_declared d =
      nat_le (f.first_variable + f.parameters) d.variable && nat_lt d.variable (f.first_variable + f.variables)
      && declares_as d (slice_get p.automatics d.variable)

  abbrev pub are_declared : List DeclaredTree → Bool
  are_declared [] = true
  are_declared (d ∷ more) = is_declared d && are_declared more

  abbrev pub is_start : TypedStartTree → Bool
  is_start Nothing = true
  is_start (Value spot e) = is_typed (kind_of p f e)
  is_start (Declares all) = are_declared all

  abbrev pub is_step : Option StepTree → Bool
  is_step None = true
  is_step (Some s) = is_typed (kind_of p f s.value)

  abbrev pub is_condition : Option RvalueTree → Bool
  is_condition None = true
  is_condition (Some e) = is_scalar (kind_of p f e)

  -- a function that gives a value returns one of its type, and another one returns none
  abbrev pub is_returned : Option RvalueTree → Bool
  is_returned None = is_void f.result
  is_returned (Some e) = not (is_void f.result) && is_of (kind_of p f e) f.result

  abbrev mutual
    -- A statement is well typed, and a `break` stands in a loop or a `switch`, a `continue` in a loop.
    pub is_statement : (breaks continues : Bool) → TypedStatementTree → Bool
    is_statement b c (Block all) = are_statements b c None all
    is_statement b c (Declaration all) = are_declared all
    is_statement b c (Empty spot) = true
    is_statement b c (Run spot e) = is_typed (kind_of p f e)
    is_statement b c (If spot e s) = is_scalar (kind_of p f e) && is_statement b c s
    is_statement b c (IfElse spot e s r) = is_scalar (kind_of p f e) && is_statement b c s && is_statement b c r
    is_statement b c (While spot e s) = is_scalar (kind_of p f e) && is_statement true true s
    is_statement b c (DoWhile s spot e) = is_scalar (kind_of p f e) && is_statement true true s
    is_statement b c (For start spot e step s) =
        is_start start && is_condition e && is_step step && is_statement true true s
    is_statement b c (Switch spot e all) =
        is_switch (tested_type (kind_of p f e)) && are_statements true c (tested_type (kind_of p f e)) all
    is_statement b c (Break spot) = b
    is_statement b c (Continue spot) = c
    is_statement b c (Return spot e) = is_returned e

    -- Statements of a block: labels stand in that of a `switch` alone, with numbers of the type that it tests, and no
    -- declaration stands directly in it.
    pub are_statements : (breaks continues : Bool) → (tested : Option IntegerType) → TypedStatementTrees → Bool
    are_statements b c tested statement.none = true
    are_statements b c tested (statement.first s rest) =
        may_stand tested s && is_statement b c s && are_statements b c tested rest
    are_statements b c tested (case z rest) = is_label tested z && are_statements b c tested rest
    are_statements b c tested (default rest) = is_switch tested && are_statements b c tested rest
