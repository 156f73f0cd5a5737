-- What is true of each accepted program: the laws that the layers above the front rest on.
use Rattle.std.specs.Prelude.{ℕ, ◌+◌, ◌==◌, ◌&&◌, nat_le, Bool, true, false, Option, Some, None, is_none, List, [], ◌∷◌, length, map, slice_get, IsTrue}
use Rattle.c_tree.specs.declared.types.IntegerType.TheVariants.{Int}
use Rattle.c_tree.specs.declared.object_type.ValueType.TheVariants.{Integer}
use Rattle.c_tree.specs.Programs.{AutomaticTree, LiteralTree, StaticTree, TypedFunctionTree, ProgramTree}
use Rattle.c_type_rules.specs.Types.{same_value}
use Rattle.c_places.specs.Memory.{kept_by_all}
use Rattle.c_places.specs.Places.{Place, places_of_program}
use Rattle.c_type_bounds.specs.Bounds.{memory_room, program_breach, variables_of}
use Rattle.c_type_laws.specs.Statements.{are_statements}
use Rattle.c_type_laws.specs.Weighing.{weighed_statements}
use Rattle.c_type_laws.specs.Orders.{ascends, is_numbered, never_falls}
use Rattle.c_type_laws.specs.Declarations.{declared_in_all}
use Rattle.c_type_laws.specs.Parameters.{parameters_single}
use Rattle.c_type_laws.specs.Plain.{are_plain}
use Rattle.c_type_laws.specs.Statics.{literals_sound, statics_sound}
use Rattle.c_type_laws.specs.Objects.{are_ended, are_static, arrays_are_kept}

-- Places ascend strictly in the text, and their lines do not fall.
abbrev pub places_ascend : List Place → Bool
places_ascend places =
    ascends (map (λ (q : Place). q.spot.at) places) && never_falls 1 (map (λ (q : Place). q.spot.line) places)

-- So do static variables, automatic ones, and literals that are objects.
abbrev pub objects_ascend : ProgramTree → Bool
objects_ascend p =
    ascends (map (λ (v : StaticTree). v.spot.at) p.statics)
    && ascends (map (λ (a : AutomaticTree). a.spot.at) p.automatics)
    && ascends (map (λ (l : LiteralTree). l.spot.at) p.literals)

abbrev pub is_in_memory : Option AutomaticTree → Bool
is_in_memory None = false
is_in_memory (Some a) = a.in_memory

abbrev pub are_in_memory : List AutomaticTree → List ℕ → Bool
are_in_memory all [] = true
are_in_memory all (x ∷ more) = is_in_memory (slice_get all x) && are_in_memory all more

-- A function's declarators declare the variables behind its parameters, each once, in text order.
abbrev pub declares_its_own : TypedFunctionTree → Bool
declares_its_own f =
    is_numbered (f.first_variable + f.parameters) (declared_in_all f.body [])
    && length (declared_in_all f.body []) + f.parameters == f.variables

-- It weighs as much as its nodes and the conversions to narrow types that were written, or more, and keeps the limits
-- of a function.
abbrev pub keeps_limits : List AutomaticTree → TypedFunctionTree → Bool
keeps_limits all f =
    nat_le (2 + f.parameters + weighed_statements f.body) f.weight && nat_le f.weight 3000 && nat_le f.parameters 8
    && nat_le (memory_room (variables_of f all)) 4096

-- A function is well typed, declares its own variables, what has to stand in memory does, its limits are kept, and its
-- declarations stand in blocks.
abbrev pub is_function : ProgramTree → TypedFunctionTree → Bool
is_function p f =
    are_statements p f false false None f.body && declares_its_own f
    && are_in_memory p.automatics (kept_by_all f.body []) && keeps_limits p.automatics f && are_plain f.body

abbrev pub are_functions : ProgramTree → List TypedFunctionTree → Bool
are_functions p [] = true
are_functions p (f ∷ more) = is_function p f && are_functions p more

-- The variables of functions follow one another, from a number on, and there are so many in all.
abbrev pub follow : (next count : ℕ) → List TypedFunctionTree → Bool
follow next count [] = next == count
follow next count (f ∷ more) = f.first_variable == next && follow (next + f.variables) count more

-- `main` is a function without parameters that gives an `int`.
abbrev pub is_main : Option TypedFunctionTree → Bool
is_main None = false
is_main (Some f) = f.parameters == 0 && same_value f.result (Integer Int)

abbrev pub weight_of : List TypedFunctionTree → ℕ
weight_of [] = 0
weight_of (f ∷ more) = f.weight + weight_of more

-- The functions are no more than 256, weigh no more than the program, and the program keeps its limits.
abbrev pub is_within : ProgramTree → Bool
is_within p = nat_le (length p.functions) 256 && nat_le (weight_of p.functions) p.weight && is_none (program_breach p)

-- Objects keep their laws: arrays are in memory, static objects and literals have their bytes.
abbrev pub are_objects : ProgramTree → Bool
are_objects p =
    arrays_are_kept p.automatics && are_static p p.statics && are_ended p.literals && are_ended p.array_literals

-- Its static storage is sound.
abbrev pub is_sound : ProgramTree → Bool
is_sound p = statics_sound p.statics && literals_sound p.literals

-- A program is well formed: it keeps each of these laws.
abbrev pub is_well_formed : ProgramTree → Bool
is_well_formed p =
    objects_ascend p && follow 0 (length p.automatics) p.functions && is_main (slice_get p.functions p.main)
    && are_objects p && are_functions p p.functions && is_within p && places_ascend (places_of_program p)
    && parameters_single p.automatics p.functions && is_sound p

-- A program that keeps each of these laws.
abbrev pub IsWellFormed : ProgramTree → Type 0
IsWellFormed p = IsTrue (is_well_formed p)
