-- The types of objects that declarators declare (6.7.6): a scalar, or an array of scalars.
use Rattle.std.specs.Prelude.{ℕ, ◌+◌, ◌^◌, ◌==◌, nat_lt, max, List, length, Bool, ◌&&◌, Option, Some, None, if◌then◌else◌}
use Rattle.debug_records.specs.declared.source.Spot.{Spot}
use Rattle.debug_records.specs.declared.code.TheConstants.Code.{UNEXPECTED_KEYWORD}
use Rattle.c_tree.specs.declared.extent.Extent.{Extent}
use Rattle.c_tree.specs.declared.types.IntegerType.TheVariants.{Char}
use Rattle.c_tree.specs.declared.object_type.Scalar.{Scalar}
use Rattle.c_tree.specs.declared.object_type.ObjectType.{ObjectType}
use Rattle.c_tree.specs.declared.object_type.ObjectType.TheVariants as object
use Rattle.c_tree.specs.Cores.{CoreTree, Literally, core_of}
use Rattle.c_tree.specs.Expressions.{ExpressionTree}
use Rattle.c_tree.specs.Declarations.{BracketsTree, Absent, Empty, Sized, InitializerTree, Value, Braces, InitializerTrees, none, first, DeclaratorTree}
use Rattle.c_type_rules.specs.Types.{same_integer}
use Rattle.c_type_values.specs.Values.{ValueTree}
use Rattle.c_type_expressions.specs.Judgements.{array_count}
use Rattle.c_type_declarations.specs.Progress.{ProgressTree, Met, means, next_met, value_met, breaks}

-- plain `char`
abbrev pub is_plain_char : Scalar → Bool
is_plain_char s = s.stars == 0 && same_integer s.base Char

-- a string literal, perhaps in parentheses: where it begins, and its bytes
abbrev pub literal_of_core : CoreTree → Option (Spot × List ℕ)
literal_of_core (Literally extent bytes) = Some (extent.first, bytes)
literal_of_core _ = None

-- the string literal that an expression is, within parentheses or not
abbrev pub literal_in : ExpressionTree → Option (Spot × List ℕ)
literal_in e = literal_of_core (core_of e)

-- the expression that alone stands in braces, if they hold no more
abbrev pub only_in : InitializerTrees → Option ExpressionTree
only_in (first (Value e) none) = Some e
only_in _ = None

-- the literal that an expression is, if there is one
abbrev pub literal_if_any : Option ExpressionTree → Option (Spot × List ℕ)
literal_if_any (Some e) = literal_in e
literal_if_any None = None

-- the only literal that an initializer is, perhaps in braces of its own
abbrev pub only_literal : InitializerTree → Option (Spot × List ℕ)
only_literal (Value e) = literal_in e
only_literal (Braces all) = literal_if_any (only_in all)

-- how many initializers stand in braces
abbrev pub count : InitializerTrees → ℕ
count none = 0
count (first i more) = count more + 1

-- the literal that initialises an array of such elements, if one does: only of `char` (6.7.9p14)
abbrev pub literal_for : Scalar → InitializerTree → Option (Spot × List ℕ)
literal_for element i = if is_plain_char element then only_literal i else None

-- how many elements an array has whose brackets are empty: as many as there are bytes of a literal with its final zero,
-- else as many as there are initializers in braces
abbrev pub initialized_count : Option (Spot × List ℕ) → InitializerTree → ℕ
initialized_count (Some l) i = length l.1 + 1
initialized_count None (Braces all) = max (count all) 1
initialized_count None (Value e) = 1

-- how many elements an array has whose brackets are empty (C11 6.7.9 p22)
abbrev pub implied_count : Scalar → Option InitializerTree → ℕ
implied_count element (Some i) = initialized_count (literal_for element i) i
implied_count element None = 1

-- how many elements an array has: one or more, and below 2 ^ 32 (E11, of the declarator); 1 stands for what is at fault
abbrev pub declared_count : ℕ → Extent → ProgressTree → Met ℕ
declared_count n extent p = if nat_lt n (2 ^ 32) then means n p else means 1 (breaks UNEXPECTED_KEYWORD extent p)

-- the size in brackets has to be a positive integer constant expression (E11)
abbrev pub count_or : Option ℕ → Extent → ProgressTree → Met ℕ
count_or (Some n) extent p = declared_count n extent p
count_or None extent p = means 1 (breaks UNEXPECTED_KEYWORD extent p)

-- how many elements an array has of which the size is a value, which is checked
abbrev pub sized_by : Extent → Option ValueTree → ProgressTree → Met ℕ
sized_by extent (Some v) p = count_or (array_count v.of v.constant) extent p
sized_by extent None p = means 1 p

-- how many elements an array has of which the size is an expression
abbrev pub size_met : Extent → ExpressionTree → ProgressTree → Met ℕ
size_met extent e p = next_met (value_met e p) (sized_by extent)

-- the type of an object with such brackets behind its name
abbrev pub type_by : BracketsTree → Scalar → Extent → Option InitializerTree → ProgressTree → Met ObjectType
type_by Absent s extent i p = means (object.Scalar s) p
type_by Empty s extent i p = next_met (declared_count (implied_count s i) extent p) (λ n. means (object.Array s n))
type_by (Sized e) s extent i p = next_met (size_met extent e p) (λ n. means (object.Array s n))

-- the type of the object that a declarator declares
abbrev pub type_met : Scalar → DeclaratorTree → ProgressTree → Met ObjectType
type_met s d = type_by d.brackets s d.extent d.initializer
