-- What the operators give on values, or none where C leaves it undefined (ISO/IEC 9899:2011, 6.5).
use Rattle.std.specs.Prelude.{ℕ, zero, suc, ◌==◌, ◌&&◌, not, ℤ, pos, negsuc, ◌-ℤ◌, ◌*ℤ◌, int_div, neg_ℤ, Bool, true, false, if◌then◌else◌, Option, Some, None, option_map}
use Rattle.c_tree.specs.declared.types.IntegerType.{IntegerType}
use Rattle.c_tree.specs.declared.object_type.ObjectType.{ObjectType}
use Rattle.c_tree.specs.declared.typed_expression.Arithmetic.{Arithmetic}
use Rattle.c_tree.specs.declared.typed_expression.Arithmetic.TheVariants.{Add, Subtract}
use Rattle.c_tree.specs.declared.typed_expression.Comparison.{Comparison}
use Rattle.c_tree.specs.declared.typed_expression.Comparison.TheVariants.{Less, Greater, LessEqual, GreaterEqual, Equal, NotEqual}
use Rattle.c_tree.specs.declared.typed_expression.Sign.{Sign}
use Rattle.c_tree.specs.declared.typed_expression.Direction.{Direction}
use Rattle.c_tree.specs.declared.typed_expression.Direction.TheVariants.{Up, Down}
use Rattle.word_base.specs.Types.{in_range, int_type}
use Rattle.word_base.specs.Operations.{truth}
use Rattle.c_type_rules.specs.Constants as constant
use Rattle.c_type_rules.specs.Integers.{wrapped}
use Rattle.c_meaning_values.specs.declared.value.Value.{Value}
use Rattle.c_meaning_values.specs.declared.value.Value.TheVariants.{Number, Null, Pointer}
use Rattle.c_meaning_values.specs.Types.{size}
use Rattle.c_meaning_values.specs.Memory.{Memory, is_usable, moved_by_bytes}

-- an operator on two numbers of a type, of which a shift's count has a type of its own (6.5.5 to 6.5.7, 6.5.10 to
-- 6.5.12)
abbrev pub arithmetic : Arithmetic → IntegerType → Value → Value → Option Value
arithmetic o t (Number a) (Number b) = option_map Number (constant.calculated o t a b)
arithmetic o t _ _ = None

-- a sign before a number of a promoted type (6.5.3.3)
abbrev pub value_with_sign : Sign → IntegerType → Value → Option Value
value_with_sign o t (Number z) = option_map Number (constant.constant_with_sign o t z)
value_with_sign o t _ = None

-- a number converted to an integer type (6.3.1.3)
abbrev pub convert : IntegerType → Value → Option Value
convert t (Number z) = Some (Number (wrapped t z))
convert t _ = None

-- whether a comparison of two numbers holds, as an `int` (6.5.8p6, 6.5.9p3)
abbrev pub comparison_value : Comparison → ℤ → ℤ → ℤ
comparison_value o a b = truth (constant.comparison_holds o a b)

-- the value of a comparison of two numbers
abbrev pub comparison : Comparison → Value → Value → Option Value
comparison o (Number a) (Number b) = Some (Number (comparison_value o a b))
comparison o _ _ = None

-- Two pointers are equal where both are null, or where object and offset are the same (6.5.9p6).
abbrev pub is_same_pointer : Value → Value → Bool
is_same_pointer Null Null = true
is_same_pointer (Pointer n i) (Pointer m j) = n == m && i == j
is_same_pointer _ _ = false

-- the order of two pointers: of two places in one object (6.5.8p5)
abbrev pub order_of : Comparison → Value → Value → Option Value
order_of o (Pointer n i) (Pointer m j) = if n == m then Some (Number (comparison_value o (pos i) (pos j))) else None
order_of o _ _ = None

-- the value of a comparison of two pointers by == or !=
abbrev pub pointers_compared : Comparison → Value → Value → Option Value
pointers_compared Equal v w = Some (Number (truth (is_same_pointer v w)))
pointers_compared NotEqual v w = Some (Number (truth (not (is_same_pointer v w))))
pointers_compared Less v w = order_of Less v w
pointers_compared Greater v w = order_of Greater v w
pointers_compared LessEqual v w = order_of LessEqual v w
pointers_compared GreaterEqual v w = order_of GreaterEqual v w

-- an operation on two pointers, neither of which points to an object that has ended (6.2.4p2)
abbrev pub if_usable : Memory → Value → Value → Option Value → Option Value
if_usable memory v w given = if is_usable memory v && is_usable memory w then given else None

-- a comparison of two pointers
abbrev pub pointer_comparison : Memory → Comparison → Value → Value → Option Value
pointer_comparison memory o v w = if_usable memory v w (pointers_compared o v w)

-- between two offsets lie so many elements of a size, which is an `int` (6.5.6p9)
abbrev pub elements_from : (size i j : ℕ) → Option ℤ
elements_from size i j = if size == 0 then None else in_range int_type (int_div (pos i -ℤ pos j) (pos size))

-- the difference of two pointers into one object, in elements (C11 6.5.6 p9)
abbrev pub elements_between : ℕ → Value → Value → Option Value
elements_between size (Pointer n i) (Pointer m j) = if n == m then option_map Number (elements_from size i j) else None
elements_between size _ _ = None

-- how many elements lie between two pointers into one object (6.5.6p9)
abbrev pub pointer_difference : Memory → ObjectType → Value → Value → Option Value
pointer_difference memory element v w = if_usable memory v w (elements_between (size element) v w)

-- one element in bytes, up or down
abbrev pub stride : Direction → ObjectType → ℤ
stride Up element = pos (size element)
stride Down element = neg_ℤ (pos (size element))

-- so many elements in bytes, up or down
abbrev pub bytes_moved : Direction → ObjectType → ℤ → ℤ
bytes_moved direction element n = n *ℤ stride direction element

-- a pointer moved by so many elements (6.5.6p8)
abbrev pub moved_by_elements : Memory → Direction → ObjectType → Value → Value → Option Value
moved_by_elements memory direction element pointer (Number n) =
    moved_by_bytes memory pointer (bytes_moved direction element n)
moved_by_elements memory direction element pointer _ = None

-- `++` and `--` add and subtract (6.5.2.4, 6.5.3.1)
abbrev pub operator_of : Direction → Arithmetic
operator_of Up = Add
operator_of Down = Subtract

-- a number is true where it is not 0, and a pointer where it is not null (6.5.13p3)
abbrev pub is_true : Value → Bool
is_true (Number (pos zero)) = false
is_true (Number (pos (suc n))) = true
is_true (Number (negsuc n)) = true
is_true Null = false
is_true (Pointer n offset) = true
