-- Whether an expression is a constant expression, and which constant (6.6).
use Rattle.std.specs.Prelude.{zero, ℤ, pos, Bool, true, false, ◌&&◌, Option, Some, None, if◌then◌else◌}
use Rattle.c_tree.specs.declared.types.IntegerType.{IntegerType}
use Rattle.c_tree.specs.declared.typed_expression.Arithmetic.{Arithmetic}
use Rattle.c_tree.specs.declared.typed_expression.Comparison.{Comparison}
use Rattle.c_tree.specs.declared.typed_expression.Sign.{Sign}
use Rattle.c_type_rules.specs.declared.constancy.Constancy.{Constancy}
use Rattle.c_type_rules.specs.declared.constancy.Constancy.TheVariants.{Varies, Formed, Known, Address}
use Rattle.word_base.specs.Operations.{truth}
use Rattle.c_type_rules.specs.Integers.{wrapped}
use Rattle.c_type_rules.specs.Constants.{calculated, comparison_holds, constant_with_sign, same}

-- an expression has the form of an integer constant expression
abbrev pub is_formed : Constancy → Bool
is_formed Varies = false
is_formed Formed = true
is_formed (Known z) = true
is_formed (Address object offset) = false

-- of two operands of that form, the form alone
abbrev pub only_formed : Constancy → Constancy → Constancy
only_formed k l = if is_formed k && is_formed l then Formed else Varies

-- a value, or where C leaves it undefined the form alone
abbrev pub or_formed : Option ℤ → Constancy
or_formed None = Formed
or_formed (Some z) = Known z

-- of a conversion to an integer type
abbrev pub converted_constant : IntegerType → Constancy → Constancy
converted_constant t (Known z) = Known (wrapped t z)
converted_constant t k = k

-- of `+`, `-` or `~` in a type
abbrev pub sign_constant : Sign → IntegerType → Constancy → Constancy
sign_constant o t (Known z) = or_formed (constant_with_sign o t z)
sign_constant o t k = k

-- of `!`
abbrev pub not_constant : Constancy → Constancy
not_constant (Known z) = Known (truth (same z (pos 0)))
not_constant k = only_formed k k

-- of arithmetic in a type
abbrev pub arithmetic_constant : Arithmetic → IntegerType → Constancy → Constancy → Constancy
arithmetic_constant o t (Known a) (Known b) = or_formed (calculated o t a b)
arithmetic_constant o t k l = only_formed k l

-- of a comparison
abbrev pub comparison_constant : Comparison → Constancy → Constancy → Constancy
comparison_constant o (Known a) (Known b) = Known (truth (comparison_holds o a b))
comparison_constant o k l = only_formed k l

-- whether a value is not 0, as a constant
abbrev pub truth_constant : Constancy → Constancy
truth_constant k = not_constant (not_constant k)

-- of `&&`: where the left operand is 0, the right one is not evaluated, and only its form counts
abbrev pub and_constant : Constancy → Constancy → Constancy
and_constant (Known (pos zero)) l = if is_formed l then Known (pos 0) else Varies
and_constant (Known z) l = truth_constant l
and_constant k l = only_formed k l

-- of `||`: where the left operand is not 0, the right one is not evaluated, and only its form counts
abbrev pub or_constant : Constancy → Constancy → Constancy
or_constant (Known (pos zero)) l = truth_constant l
or_constant (Known z) l = if is_formed l then Known (pos 1) else Varies
or_constant k l = only_formed k l

-- of `?:` on integers, both arms of that form
abbrev pub chosen_constant : Constancy → Constancy → Constancy → Constancy
chosen_constant (Known (pos zero)) k l = l
chosen_constant (Known z) k l = k
chosen_constant c k l = only_formed c k

-- of `?:` on integers: of the arm that is not evaluated only the form counts
abbrev pub conditional_constant : Constancy → Constancy → Constancy → Constancy
conditional_constant c k l = if is_formed k && is_formed l then chosen_constant c k l else Varies
