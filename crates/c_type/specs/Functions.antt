-- Declarations and definitions of functions (6.7.6.3 and 6.9.1).
use Rattle.std.specs.Prelude.{◌≡◌, ℕ, ◌+◌, ◌-◌, ◌==◌, String, List, [], ◌∷◌, ◌++◌, length, take, is_some, Bool, false, ◌&&◌, ◌||◌, not, Option, Some, None, slice_get, if◌then◌else◌}
use Rattle.std.specs.Option.{option_map, option_map_or}
use Rattle.std.specs.Str.{bytes_eq}
use Rattle.std.specs.HashMap.{HashMap, get_by_text}
use Rattle.debug_records.specs.declared.code.TheConstants.Code.{REDECLARED}
use Rattle.c_tree.specs.declared.extent.Extent.{Extent}
use Rattle.c_tree.specs.declared.types.Base.{Base}
use Rattle.c_tree.specs.declared.types.Base.TheVariants as base
use Rattle.c_tree.specs.declared.object_type.Scalar.{Scalar}
use Rattle.c_tree.specs.declared.object_type.ObjectType.TheVariants as object_type
use Rattle.c_tree.specs.declared.object_type.Object.TheVariants as object
use Rattle.c_tree.specs.declared.object_type.ValueType.{ValueType}
use Rattle.c_tree.specs.declared.object_type.ValueType.TheVariants as value
use Rattle.c_tree.specs.declared.typed_expression.Callee.{Callee}
use Rattle.c_tree.specs.declared.typed_expression.Callee.TheVariants as callee
use Rattle.c_tree.specs.Expressions.{NameTree}
use Rattle.c_tree.specs.Declarations.{ParameterTree, BracketsTree, Absent, Sized}
use Rattle.c_tree.specs.Statements.{BlockTree, chain_of_statements}
use Rattle.c_tree.specs.Programs.{TypedFunctionTree}
use Rattle.c_tree.specs.Trees.{FunctionTree, ItemTree, Include, Declares, Defines}
use Rattle.c_tree.specs.TypedStatements.{TypedStatementTrees}
use Rattle.c_type_rules.specs.Types.{loaded_type}
use Rattle.c_type_bounds.specs.Counts.{capped}
use Rattle.c_type_bounds.specs.Weights.{definition_weight}
use Rattle.c_type_expressions.specs.declared.names.Meaning.{Meaning}
use Rattle.c_type_expressions.specs.declared.names.Meaning.TheVariants.{Variable, Function}
use Rattle.c_type_expressions.specs.Names.{SignatureTree, meaning_of}
use Rattle.c_type_declarations.specs.Progress.{ProgressTree, Met, means, next_met, reached_by, breaks, declares, opened, scope_left}
use Rattle.c_type_declarations.specs.Objects.{size_met}
use Rattle.c_type_declarations.specs.Declarations.{with_automatic}
use Rattle.c_type_statements.specs.declared.setting.Setting.{Setting}
use Rattle.c_type_statements.specs.Statements.{statements_met}
use Rattle.c_type.specs.Headers.{same_type, is_library_name, with_function}

-- the type of a parameter: that of its declarator, and of an array a pointer to its elements
abbrev pub parameter_stars : BracketsTree → ℕ → ℕ
parameter_stars Absent stars = stars
parameter_stars b stars = stars + 1

-- the type of a parameter, where an array is a pointer (C11 6.7.6.3 p7)
abbrev pub parameter_type : ParameterTree → Scalar
parameter_type p = record { base = p.type; stars = parameter_stars p.brackets p.stars }

-- the types of parameters
abbrev pub parameter_types : List ParameterTree → List Scalar
parameter_types [] = []
parameter_types (p ∷ ps) = parameter_type p ∷ parameter_types ps

-- a size in the brackets of a parameter keeps the rules of sizes
abbrev pub parameter_size : Extent → BracketsTree → ProgressTree → ProgressTree
parameter_size extent (Sized e) p = reached_by (size_met extent e p) (λ n q. q)
parameter_size extent b p = p

-- the sizes in the brackets of parameters are checked
abbrev pub parameter_sizes : List ParameterTree → ProgressTree → ProgressTree
parameter_sizes [] p = p
parameter_sizes (d ∷ ds) p = parameter_sizes ds (parameter_size d.extent d.brackets p)

-- a parameter as a variable of its function's scope, where it has a name
abbrev pub parameter_named : Extent → Scalar → NameTree → ProgressTree → ProgressTree
parameter_named extent s n p =
    with_automatic n (object_type.Scalar s)
    (declares extent n.name (Variable (object.Automatic (length p.automatics)) (object_type.Scalar s)) p)

-- a parameter is declared, if it has a name
abbrev pub parameter_met : ParameterTree → ProgressTree → ProgressTree
parameter_met d p = option_map_or (λ n. parameter_named d.extent (parameter_type d) n p) d.name p

-- parameters are declared, one after the other
abbrev pub parameters_met : List ParameterTree → ProgressTree → ProgressTree
parameters_met [] p = p
parameters_met (d ∷ ds) p = parameters_met ds (parameter_met d p)

-- what a function gives: nothing, or a value of a scalar type
abbrev pub result_type : Base → ℕ → ValueType
result_type base.Void stars = value.Void
result_type (base.Integer t) stars = loaded_type (record { base = t; stars = stars })

-- the names of the functions that a source defines, in text order
abbrev pub names_if : FunctionTree → List (List ℕ)
names_if f = option_map_or (λ b. f.name.name ∷ []) f.body []

-- the name of the function that an item defines, if it defines one
abbrev pub defined_by : ItemTree → List (List ℕ)
defined_by (Include spot header) = []
defined_by (Declares d) = []
defined_by (Defines f) = names_if f

-- the names of the functions that items define, in the order of the source
abbrev pub defined : List ItemTree → List (List ℕ)
defined [] = []
defined (i ∷ rest) = defined_by i ++ defined rest

-- the number of a definition of a name: that of the first one
abbrev pub definition_number : List ℕ → List (List ℕ) → Option ℕ
definition_number name [] = None
definition_number name (n ∷ ns) =
    if bytes_eq n name then Some 0 else option_map (λ k. k + 1) (definition_number name ns)

-- a map that tells the number of each name that is defined
abbrev pub IsNumbering : {Y S : Type 0} → HashMap (String Y) ℕ S → List (List ℕ) → Type 0
IsNumbering numbers names = (name : List ℕ) → get_by_text numbers name ≡ definition_number name names

-- the function of this name among those that are defined, if it is one of them
abbrev pub callee_of : List (List ℕ) → List ℕ → Option Callee
callee_of names name = option_map (λ k. callee.Function k) (definition_number name names)

-- what a function takes and gives as it is declared
abbrev pub signature_of : List (List ℕ) → FunctionTree → SignatureTree
signature_of names f =
    record {
      result = result_type f.base f.stars;
      parameters = parameter_types f.parameters;
      callee = callee_of names f.name.name;
    }

-- a definition is the first of its name: its number is how many stand before it
abbrev pub is_callee : ℕ → Option Callee → Bool
is_callee k (Some (callee.Function j)) = j == k
is_callee k _ = false

-- a function is only declared here, or this is its first definition
abbrev pub is_first_definition : ℕ → FunctionTree → SignatureTree → Bool
is_first_definition k f g = not (is_some f.body) || is_callee k g.callee

-- a declaration beside an earlier one of its name: both are of one type, and one at most is a definition
abbrev pub agrees : ℕ → FunctionTree → SignatureTree → Option SignatureTree → Bool
agrees k f g (Some known) = same_type known g && is_first_definition k f g
agrees k f g None = false

-- a function is declared as it was declared before (C11 6.7 p4)
abbrev pub agrees_with : ℕ → FunctionTree → SignatureTree → Meaning → ProgressTree → Bool
agrees_with k f g (Function j) p = agrees k f g (slice_get p.names.signatures j)
agrees_with k f g m p = false

-- a function is declared, and a fault where its name means something else
abbrev pub known_as : ℕ → FunctionTree → SignatureTree → Option Meaning → ProgressTree → ProgressTree
known_as k f g None p = with_function f.name.name g p
known_as k f g (Some m) p = if agrees_with k f g m p then p else breaks REDECLARED f.extent p

-- a function's name: no definition has one of the library's (E21), and declarations agree (E21)
abbrev pub name_met : ℕ → FunctionTree → SignatureTree → ProgressTree → ProgressTree
name_met k f g p =
    if is_some f.body && is_library_name f.name.name then breaks REDECLARED f.extent p
    else known_as k f g (meaning_of p.names f.name.name) p

-- the function that a block makes, whose variables are those from the first on
abbrev pub function_made : FunctionTree → SignatureTree → BlockTree → ℕ → TypedStatementTrees → ProgressTree
    → Met (List TypedFunctionTree)
function_made f g b start ts p =
    means
    (record {
      name = f.name.name;
      spot = f.name.spot;
      result = g.result;
      first_variable = start;
      parameters = length f.parameters;
      variables = length p.automatics - start;
      body = ts;
      close = b.closing;
      weight = capped (definition_weight f.parameters b);
    } ∷ [])
    (scope_left p)

-- the setting of a function's body: its result, and outside each loop and switch
abbrev pub setting_of : SignatureTree → Setting
setting_of g = record { result = g.result; may_break = false; may_continue = false }

-- a function's block has the scope of its parameters
abbrev pub body_met : FunctionTree → SignatureTree → BlockTree → ProgressTree → Met (List TypedFunctionTree)
body_met f g b p =
    next_met (statements_met (setting_of g) (chain_of_statements b.statements) (parameters_met f.parameters (opened p)))
    (function_made f g b (length p.automatics))

-- of a function that is only declared the parameters are no variables, but no two have one name (E21)
abbrev pub without_new : ℕ → ProgressTree → ProgressTree
without_new n p = record p { automatics = take n p.automatics }

-- a function that is only declared leaves none of its parameters behind
abbrev pub declared_only : FunctionTree → ProgressTree → Met (List TypedFunctionTree)
declared_only f p = means [] (without_new (length p.automatics) (scope_left (parameters_met f.parameters (opened p))))

-- the body of a function, if it has one
abbrev pub rest_met : FunctionTree → SignatureTree → Option BlockTree → ProgressTree → Met (List TypedFunctionTree)
rest_met f g (Some b) p = body_met f g b p
rest_met f g None p = declared_only f p

-- a function, behind so many definitions; the names are those of all definitions
abbrev pub function_met : List (List ℕ) → ℕ → FunctionTree → ProgressTree → Met (List TypedFunctionTree)
function_met names k f p =
    rest_met f (signature_of names f) f.body (name_met k f (signature_of names f) (parameter_sizes f.parameters p))
