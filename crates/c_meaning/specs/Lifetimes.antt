-- The objects that declarators and blocks begin and end (ISO/IEC 9899:2011, 6.2.4, 6.7.9).
use Rattle.std.specs.Prelude.{ℕ, ◌+◌, pos, List, [], ◌∷◌, ◌++◌, map, slice_get}
use Rattle.std.specs.Option.{option_map_or}
use Rattle.c_tree.specs.declared.types.IntegerType.{IntegerType}
use Rattle.c_tree.specs.declared.types.IntegerType.TheVariants.{Char}
use Rattle.c_tree.specs.Programs.{AutomaticTree, LiteralTree}
use Rattle.c_type_rules.specs.Integers.{wrapped}
use Rattle.c_meaning_values.specs.declared.value.Value.{Value}
use Rattle.c_meaning_values.specs.declared.value.Value.TheVariants.{Number}
use Rattle.c_meaning_values.specs.declared.value.Phase.{Phase}
use Rattle.c_meaning_values.specs.Types.{element_scalar}
use Rattle.c_meaning_values.specs.Memory.{Object, Memory, new_object, set_value, ended_from}
use Rattle.c_meaning_steps.specs.States.{State, Outcome, Next, Broken, Continued, Returned, Ended}
use Rattle.c_meaning.specs.Activations.{Activation, variable_owner}

-- all objects that began when there were so many end, however control leaves
abbrev pub ending_from : ℕ → State → State
ending_from n s = record s { memory = ended_from n s.memory }

-- The objects that began in a block end with it (6.2.4p6).
abbrev pub lifetimes_ended : ℕ → Outcome → Outcome
lifetimes_ended n (Next s) = Next (ending_from n s)
lifetimes_ended n (Broken s) = Broken (ending_from n s)
lifetimes_ended n (Continued s) = Continued (ending_from n s)
lifetimes_ended n (Returned v s) = Returned v (ending_from n s)
lifetimes_ended n (Ended e s) = Ended e s

-- a new object of a variable, if the program has it
abbrev pub objects_of : Activation → Phase → ℕ → List Object
objects_of here phase x =
    option_map_or (λ (a : AutomaticTree). new_object (variable_owner here x) a.of phase ∷ [])
    (slice_get here.program.automatics x) []

-- A declarator makes a new object, which is zero (6.2.4p6).
abbrev pub made : Activation → Phase → ℕ → State → State
made here phase x s = record s { memory = s.memory ++ objects_of here phase x }

-- the integer type of a variable's elements; `char` where the program has no such variable
abbrev pub element_type : Activation → ℕ → IntegerType
element_type here x =
    option_map_or (λ (a : AutomaticTree). (element_scalar a.of).base) (slice_get here.program.automatics x) Char

-- The value of an element that a byte of a literal initialises: the byte, converted to the element's type (6.7.9p14,
-- 6.3.1.3).
abbrev pub element_value : IntegerType → ℕ → Value
element_value t byte = Number (wrapped t (pos byte))

-- the values of a literal that initialises an array of elements of a type, if the program has it
abbrev pub literal_values : List LiteralTree → IntegerType → ℕ → List Value
literal_values all t n = option_map_or (λ (l : LiteralTree). map (element_value t) l.bytes) (slice_get all n) []

-- values from an index on
abbrev pub set_values : Memory → ℕ → (index : ℕ) → List Value → Memory
set_values memory n index [] = memory
set_values memory n index (v ∷ vs) = set_values (set_value memory n index v) n (index + 1) vs
