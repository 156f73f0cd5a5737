-- The operations of constant expressions on whole numbers of integer types (6.5 and 6.6). None is what C leaves
-- undefined.
use Rattle.std.specs.Prelude.{ℤ, Bool, ◌&&◌, not, int_lt, Option, Some}
use Rattle.std.specs.Int.RustNames.{int_le}
use Rattle.c_tree.specs.declared.types.IntegerType.{IntegerType}
use Rattle.c_tree.specs.declared.typed_expression.Arithmetic.{Arithmetic}
use Rattle.c_tree.specs.declared.typed_expression.Arithmetic.TheVariants.{Multiply, Divide, Remainder, Add, Subtract, ShiftLeft, ShiftRight, BitAnd, BitXor, BitOr}
use Rattle.c_tree.specs.declared.typed_expression.Comparison.{Comparison}
use Rattle.c_tree.specs.declared.typed_expression.Comparison.TheVariants.{Less, Greater, LessEqual, GreaterEqual, Equal, NotEqual}
use Rattle.c_tree.specs.declared.typed_expression.Sign.{Sign}
use Rattle.c_tree.specs.declared.typed_expression.Sign.TheVariants.{Plus, Minus, Complement}
use Rattle.word_base.specs.Operations.{sum, difference, product, quotient, remainder, left_shift, right_shift, bits_in_both, bits_in_either, bits_in_one, complement, negation}
use Rattle.c_type_rules.specs.Integers.{integer}

-- two numbers are one
abbrev pub same : ℤ → ℤ → Bool
same a b = int_le a b && int_le b a

-- what an operator gives on two numbers of a type, the right one of a shift of its own (6.5.5 to 6.5.7, 6.5.10 to
-- 6.5.12)
abbrev pub calculated : Arithmetic → IntegerType → ℤ → ℤ → Option ℤ
calculated Multiply t a b = product (integer t) a b
calculated Divide t a b = quotient (integer t) a b
calculated Remainder t a b = remainder (integer t) a b
calculated Add t a b = sum (integer t) a b
calculated Subtract t a b = difference (integer t) a b
calculated ShiftLeft t a b = left_shift (integer t) a b
calculated ShiftRight t a b = right_shift (integer t) a b
calculated BitAnd t a b = bits_in_both (integer t) a b
calculated BitXor t a b = bits_in_one (integer t) a b
calculated BitOr t a b = bits_in_either (integer t) a b

-- whether a comparison holds (6.5.8 and 6.5.9)
abbrev pub comparison_holds : Comparison → ℤ → ℤ → Bool
comparison_holds Less a b = int_lt a b
comparison_holds Greater a b = int_lt b a
comparison_holds LessEqual a b = int_le a b
comparison_holds GreaterEqual a b = int_le b a
comparison_holds Equal a b = same a b
comparison_holds NotEqual a b = not (same a b)

-- what a sign gives on a number of a type (6.5.3.3)
abbrev pub constant_with_sign : Sign → IntegerType → ℤ → Option ℤ
constant_with_sign Plus t z = Some z
constant_with_sign Minus t z = negation (integer t) z
constant_with_sign Complement t z = complement (integer t) z
