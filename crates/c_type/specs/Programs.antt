-- The programs that are accepted, and why others are refused: by the first of five steps that finds a reason.
use Rattle.std.specs.Prelude.{ℕ, List, [], ◌∷◌, Option, Some, None, Result, Ok, Err, codes, if◌then◌else◌, Bool, true, false, ◌&&◌}
use Rattle.std.specs.Option.{option_map, option_map_or}
use Rattle.std.specs.Str.{bytes_eq}
use Rattle.debug_records.specs.declared.source.Spot.{Spot}
use Rattle.debug_records.specs.declared.code.Code.{Code}
use Rattle.debug_records.specs.declared.code.TheConstants.Code.{NO_MAIN, UNDECLARED}
use Rattle.c_tree.specs.declared.types.IntegerType.TheVariants.{Int}
use Rattle.c_tree.specs.declared.object_type.ValueType.{ValueType}
use Rattle.c_tree.specs.declared.object_type.ValueType.TheVariants.{Integer}
use Rattle.c_tree.specs.Programs.{TypedFunctionTree, AutomaticTree, ProgramTree}
use Rattle.c_tree.specs.Declarations.{DeclaratorTree}
use Rattle.c_tree.specs.Trees.{FunctionTree, ItemTree, Include, Declares, Defines}
use Rattle.c_type_rules.specs.Types.{same_value}
use Rattle.c_type_bounds.specs.Counts.{capped}
use Rattle.c_type_bounds.specs.Weights.{items_weight}
use Rattle.c_type_bounds.specs.Bounds.{behind_functions, program_breach}
use Rattle.c_type_expressions.specs.declared.findings.Fault.{Fault}
use Rattle.c_type_declarations.specs.Progress.{ProgressTree, means}
use Rattle.c_type.specs.Faults.{first_fault}
use Rattle.c_type.specs.Functions.{defined, definition_number, result_type}
use Rattle.c_type.specs.Items.{source_met}

-- a refusal: a code and a line
abbrev pub Refusal : Type 0
Refusal = Code × ℕ

-- what is there, or else another
abbrev pub or_else : {A : Type 0} → Option A → Option A → Option A
or_else (Some a) o = Some a
or_else None o = o

-- the first step: the first fault, on the line of its construct's first token
abbrev pub fault_refusal : Option Fault → Option Refusal
fault_refusal fault = option_map (λ f. (f.code, f.first.line)) fault

-- the second: the first call of a function that is never defined
abbrev pub undefined_refusal : List Spot → Option Refusal
undefined_refusal [] = None
undefined_refusal (spot ∷ more) = Some (UNDECLARED, spot.line)

-- the third: there is a definition of `int main(void)`, by this name
abbrev pub main : List ℕ
main = codes "main"

-- a name is main
abbrev pub is_main : List ℕ → Bool
is_main name = bytes_eq name main

-- a type is int
abbrev pub is_int : ValueType → Bool
is_int of = same_value of (Integer Int)

-- a list is empty
abbrev pub has_none : {A : Type 0} → List A → Bool
has_none [] = true
has_none (a ∷ more) = false

-- a declaration of `main` is of its type
abbrev pub main_line : FunctionTree → Option ℕ
main_line f = if is_int (result_type f.base f.stars) && has_none f.parameters then None else Some f.name.spot.line

-- an object that is called so
abbrev pub object_line : List DeclaratorTree → Option ℕ
object_line [] = None
object_line (d ∷ ds) = if is_main d.name.name then Some d.name.spot.line else object_line ds

-- the definition of `main`, if there is one
abbrev pub is_definition : FunctionTree → Bool
is_definition f = option_map_or (λ b. is_main f.name.name) f.body false

-- the definition of main, if there is one
abbrev pub main_definition : List ItemTree → Option FunctionTree
main_definition [] = None
main_definition (Include spot header ∷ rest) = main_definition rest
main_definition (Declares d ∷ rest) = main_definition rest
main_definition (Defines f ∷ rest) = if is_definition f then Some f else main_definition rest

-- the line of the first declaration of `main` as anything but `int main(void)`
abbrev pub misdeclared : ItemTree → Option ℕ
misdeclared (Include spot header) = None
misdeclared (Declares d) = object_line d.declarators
misdeclared (Defines f) = if is_main f.name.name then main_line f else None

-- the line of the first declaration of `main` as anything but `int main(void)`, if there is one
abbrev pub first_misdeclared : List ItemTree → Option ℕ
first_misdeclared [] = None
first_misdeclared (i ∷ rest) = or_else (misdeclared i) (first_misdeclared rest)

-- the refusal of a program without main: at its wrong declaration, or else at line 1
abbrev pub no_definition : Option ℕ → Refusal
no_definition (Some line) = (NO_MAIN, line)
no_definition None = (NO_MAIN, 1)

-- the refusal of a program whose main is missing, or takes or gives something else (C11 5.1.2.2.1)
abbrev pub main_refusal : List ItemTree → Option FunctionTree → Option Refusal
main_refusal items (Some f) = option_map (λ line. (NO_MAIN, line)) (main_line f)
main_refusal items None = Some (no_definition (first_misdeclared items))

-- the number of `main` among the functions
abbrev pub main_number : List ItemTree → ℕ
main_number items = option_map_or (λ k. k) (definition_number main (defined items)) 0

-- a program of such functions, objects and literals
abbrev pub program_with : List TypedFunctionTree → ℕ → ProgressTree → List AutomaticTree → ℕ → ProgramTree
program_with fs main p vs weight =
    record {
      functions = fs;
      main = main;
      statics = p.statics;
      automatics = vs;
      literals = p.found.literals;
      array_literals = p.array_literals;
      weight = weight;
    }

-- the program of a source, whose names and types are in order
abbrev pub program_of : List ItemTree → List TypedFunctionTree → ProgressTree → List AutomaticTree → ProgramTree
program_of items fs p vs = program_with fs (main_number items) p vs (capped (items_weight items))

-- the fifth step: the limits of the program, on line 1
abbrev pub within_program_limits : ProgramTree → Result ProgramTree Refusal
within_program_limits program = option_map_or (λ code. Err (code, 1)) (program_breach program) (Ok program)

-- the fourth step: the limits of each function, in text order, and then those of the program
abbrev pub within_function_limits : List ItemTree → List TypedFunctionTree → ProgressTree → Result ProgramTree Refusal
within_function_limits items fs p =
    elim (behind_functions 0 fs p.automatics)
    [ Ok vs ↦ within_program_limits (program_of items fs p vs) | Err r ↦ Err r ]

-- the first three steps
abbrev pub names_refusal : List ItemTree → ProgressTree → Option Refusal
names_refusal items p =
    or_else (fault_refusal (first_fault p.found.faults))
    (or_else (undefined_refusal p.found.undefined) (main_refusal items (main_definition items)))

-- the last two, where the first three find no reason
abbrev pub unless_refused : Option Refusal → Result ProgramTree Refusal → Result ProgramTree Refusal
unless_refused (Some r) next = Err r
unless_refused None next = next

-- the program of what is found in a source, by all five steps
abbrev pub accepted : List ItemTree → List TypedFunctionTree → ProgressTree → Result ProgramTree Refusal
accepted items fs p = unless_refused (names_refusal items p) (within_function_limits items fs p)

-- the program of a source, or why it is refused
abbrev pub checked : List ItemTree → Result ProgramTree Refusal
checked items = elim (source_met items) [ means fs p ↦ accepted items fs p ]
