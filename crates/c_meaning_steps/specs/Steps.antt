-- What is done once the operands of an expression have their values (ISO/IEC 9899:2011, 6.5).
use Rattle.std.specs.Prelude.{option_and_then, ℕ, ℤ, pos, negsuc, Option, Some, None, List, [], ◌∷◌}
use Rattle.c_tree.specs.declared.types.IntegerType.{IntegerType}
use Rattle.c_tree.specs.declared.object_type.Object as designator
use Rattle.c_tree.specs.declared.object_type.Object.TheVariants.{Static, Automatic, Literal}
use Rattle.c_tree.specs.declared.typed_expression.Given.{Given}
use Rattle.c_tree.specs.declared.typed_expression.Given.TheVariants.{New, Old}
use Rattle.c_tree.specs.declared.typed_expression.Arithmetic as declared-arithmetic
use Rattle.word_base.specs.Types.{char_type, converted, bits_of}
use Rattle.word_base.specs.Owners as owner
use Rattle.c_meaning_values.specs.declared.value.Value.{Value}
use Rattle.c_meaning_values.specs.declared.value.Value.TheVariants as value
use Rattle.c_meaning_steps.specs.declared.event.Ending.TheVariants as ending
use Rattle.c_meaning_values.specs.Memory.{Memory, pointer_to_owner, read, write}
use Rattle.c_meaning_values.specs.Operations.{arithmetic, convert}
use Rattle.c_meaning_steps.specs.States.{State, Put, seen, Evaluated, Gives, Leaves, Ends, value_or_undefined, with, usable, Both, Pair, NoPair}

-- what an object holds where a pointer points; a pointer that is read is one that may be used
abbrev pub load : Value → State → Evaluated
load p s = with (value_or_undefined (read s.memory p) s) usable

-- memory with a value written, or undefined behaviour where it could not be written
abbrev pub value_stored : Option Memory → Value → State → Evaluated
value_stored None v s = Ends ending.Undefined s
value_stored (Some memory) v s = Gives v (record s { memory = memory })

-- a value is written where a pointer points, and is the value of the assignment (6.5.16p3)
abbrev pub store : Value → Value → State → Evaluated
store p v s = value_stored (write s.memory p v) v s

-- a pointer to the beginning of an object that a name designates, in an activation of this depth
abbrev pub pointer_to_named : ℕ → designator.Object → Memory → Option Value
pointer_to_named depth (Static n) memory = pointer_to_owner (owner.Static n) memory
pointer_to_named depth (Literal n) memory = pointer_to_owner (owner.Literal n) memory
pointer_to_named depth (Automatic x) memory = pointer_to_owner (owner.Variable x depth) memory

-- a value, if another one could be read
abbrev pub if_read : Option Value → Value → Option Value
if_read None p = None
if_read (Some v) p = Some p

-- An array that is used is a pointer to its first element, which is there (6.3.2.1p3).
abbrev pub decayed : Value → State → Evaluated
decayed p s = value_or_undefined (if_read (read s.memory p) p) s

-- an old value was read, and a new one is written: the value is the new one or the old one
abbrev pub replaced : Given → Value → (old new : Value) → State → Evaluated
replaced New p old new s = store p new s
replaced Old p old new s = with (store p new s) (λ v t. Gives old t)

-- The next byte of the input as an `unsigned char`, or `EOF`, which is -1 (7.21.7.6).
abbrev pub next_byte : List ℕ → State → Evaluated
next_byte [] s = Gives (value.Number (negsuc 0)) s
next_byte (byte ∷ input) s = Gives (value.Number (pos byte)) (record s { input = input })

-- A byte is put out, converted to `unsigned char`, and is the value (7.21.7.8).
abbrev pub byte_put : Value → State → Evaluated
byte_put (value.Number z) s = Gives (value.Number (converted char_type z)) (seen (Put (bits_of char_type z)) s)
byte_put _ s = Ends ending.Undefined s

-- the program ends with a status (7.22.4.4)
abbrev pub leave : Value → State → Evaluated
leave (value.Number z) s = Ends (ending.Exit z) s
leave _ s = Ends ending.Undefined s

-- the value of a condition as a number
abbrev pub truth_value : ℤ → State → Evaluated
truth_value z s = Gives (value.Number z) s

-- the value that was read through a pointer, beside the pointer
abbrev pub read_by : Value → Evaluated → Both
read_by p (Gives old s) = Pair p old s
read_by p (Leaves s) = NoPair ending.Undefined s
read_by p (Ends e s) = NoPair e s

-- the object of a left side was found, and is read: where it is, and what it holds
abbrev pub left_side_read : Evaluated → Both
left_side_read (Gives p s) = read_by p (load p s)
left_side_read (Leaves s) = NoPair ending.Undefined s
left_side_read (Ends e s) = NoPair e s

-- What `a op= b` makes of an integer: the old value and the right side are operands in a type, and the result is
-- converted to the target's type (6.5.16.2p3).
abbrev pub updated_value : declared-arithmetic.Arithmetic → (type calculated_in : IntegerType) → (old right : Value)
    → Option Value
updated_value o type calculated_in old right =
    option_and_then (λ r. convert type r)
    (option_and_then (λ left. arithmetic o calculated_in left right) (convert calculated_in old))

-- a new value, if there is one, is written where a pointer points
abbrev pub store_if : Option Value → Value → State → Evaluated
store_if None p s = Ends ending.Undefined s
store_if (Some v) p s = store p v s

-- an object's new value is written, if there is one, and the old or the new one is given
abbrev pub replace_if : Option Value → Given → Value → (old : Value) → State → Evaluated
replace_if None which p old s = Ends ending.Undefined s
replace_if (Some new) which p old s = replaced which p old new s

-- the number 1
abbrev pub one : Value
one = value.Number (pos 1)
