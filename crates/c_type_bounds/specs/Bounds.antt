-- The limits of the compiler on programs that break no other rule.
use Rattle.std.specs.Prelude.{◌≡◌, ℕ, zero, suc, ◌+◌, nat_lt, ◌||◌, List, [], ◌∷◌, length, sum_by, take, drop, true, Option, Some, None, Result, Ok, Err, if◌then◌else◌}
use Rattle.debug_records.specs.declared.code.Code.{Code}
use Rattle.debug_records.specs.declared.source.SourceErr.{SourceErr}
use Rattle.debug_records.specs.Refusals.{Refuses}
use Rattle.debug_records.specs.declared.code.TheConstants.Code.{FUNCTION_WEIGHT, PROGRAM_WEIGHT, FUNCTION_OBJECTS, STATIC_OBJECTS, FUNCTION_COUNT, VISIBLE_PAIRS}
use Rattle.c_tree.specs.Programs.{AutomaticTree, StaticTree, LiteralTree, TypedFunctionTree, ProgramTree}
use Rattle.c_type_rules.specs.Integers.{object_size, room}
use Rattle.c_places.specs.Memory.{kept_by_all}
use Rattle.c_type_bounds.specs.Visible.{visible_pairs}

-- variables of which one is in memory
abbrev pub with_one_in_memory : ℕ → List AutomaticTree → List AutomaticTree
with_one_in_memory k [] = []
with_one_in_memory zero (v ∷ vs) = record v { in_memory = true } ∷ vs
with_one_in_memory (suc k) (v ∷ vs) = v ∷ with_one_in_memory k vs

-- variables of which so many are in memory
abbrev pub with_all_in_memory : List ℕ → List AutomaticTree → List AutomaticTree
with_all_in_memory [] vs = vs
with_all_in_memory (k ∷ ks) vs = with_all_in_memory ks (with_one_in_memory k vs)

-- the bytes that an object takes where it is kept in memory
abbrev pub kept_room : AutomaticTree → ℕ
kept_room v = if v.in_memory then room (object_size v.of) else 0

-- the bytes that the memory objects among variables take
abbrev pub memory_room : List AutomaticTree → ℕ
memory_room = sum_by kept_room

-- the variables of a function
abbrev pub variables_of : TypedFunctionTree → List AutomaticTree → List AutomaticTree
variables_of f vs = take f.variables (drop f.first_variable vs)

-- the bytes that a static object takes
abbrev pub own_room : StaticTree → ℕ
own_room v = room (object_size v.of)

-- the bytes that static objects take
abbrev pub static_room : List StaticTree → ℕ
static_room = sum_by own_room

-- the bytes that a literal takes
abbrev pub text_room : LiteralTree → ℕ
text_room l = room (length l.bytes)

-- the bytes that literals take
abbrev pub literal_room : List LiteralTree → ℕ
literal_room = sum_by text_room

-- the limits of a function: it weighs 3,000 at most (L03), its memory objects take 4,096 bytes at most (L05), it is one
-- of the first 256, and has 8 parameters at most (L07)
abbrev pub function_breach : ℕ → TypedFunctionTree → List AutomaticTree → Option Code
function_breach number f vs =
    if nat_lt 3000 f.weight then Some FUNCTION_WEIGHT
    else
    (if nat_lt 4096 (memory_room (variables_of f vs)) then Some FUNCTION_OBJECTS
    else (if nat_lt 255 number || nat_lt 8 f.parameters then Some FUNCTION_COUNT else None))

-- the automatic variables with what a function keeps in memory
abbrev pub with_kept : TypedFunctionTree → List AutomaticTree → List AutomaticTree
with_kept f vs = with_all_in_memory (kept_by_all f.body []) vs

-- a breach is on the line of the function's name
abbrev pub or_breach : Option Code → ℕ → List AutomaticTree → Result (List AutomaticTree) (Code × ℕ)
or_breach (Some code) line vs = Err (code, line)
or_breach None line vs = Ok vs

-- the automatic variables behind a function, or the refusal of the source where the function passes a bound
abbrev pub behind_function : ℕ → TypedFunctionTree → List AutomaticTree → Result (List AutomaticTree) (Code × ℕ)
behind_function number f vs = or_breach (function_breach number f (with_kept f vs)) f.spot.line (with_kept f vs)

-- the functions in text order, with the number of the first one
abbrev pub behind_functions : ℕ → List TypedFunctionTree → List AutomaticTree → Result (List AutomaticTree) (Code × ℕ)
behind_functions number [] vs = Ok vs
behind_functions number (f ∷ fs) vs =
    elim (behind_function number f vs) [ Ok ws ↦ behind_functions (number + 1) fs ws | Err e ↦ Err e ]

-- the bytes that the static objects of a program take, its literals among them, also those that initialise arrays
abbrev pub objects_room : ProgramTree → ℕ
objects_room p = static_room p.statics + literal_room p.literals + literal_room p.array_literals

-- the limits of a program: it weighs 40,000 at most (L04), its static objects take 1 MiB at most (L06), and at its
-- places 1,000,000 variables are visible at most (L08)
abbrev pub program_breach : ProgramTree → Option Code
program_breach p =
    if nat_lt 40000 p.weight then Some PROGRAM_WEIGHT
    else
    (if nat_lt 1048576 (objects_room p) then Some STATIC_OBJECTS
    else (if nat_lt 1000000 (visible_pairs p) then Some VISIBLE_PAIRS else None))

-- what the check of functions answers: their variables as marked, or the refusal, but for the want of memory, which
-- says nothing of them
abbrev pub Marks : {U X : Type 0} → Result U SourceErr → X → Result X (Code × ℕ) → Type 0
Marks (Ok u) new outcome = outcome ≡ Ok new
Marks (Err e) new outcome = Refuses e outcome
