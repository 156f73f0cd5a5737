-- What stands at file scope, and the tree of a source.
use Rattle.std.specs.Prelude.{◌≡◌, ℕ, zero, suc, ◌-◌, Bool, true, false, is_some, if◌then◌else◌, List, [], ◌∷◌, ◌++◌, length, drop, Option, Some, None, Result, Ok, Err}
use Rattle.std.specs.Option.{option_map_or}
use Rattle.debug_records.specs.declared.code.Code.{Code}
use Rattle.debug_records.specs.declared.code.TheConstants.Code.{UNEXPECTED_TOKEN}
use Rattle.debug_records.specs.declared.source.SourceErr.{SourceErr}
use Rattle.debug_records.specs.declared.source.SourceErr.TheVariants as source
use Rattle.c_token.specs.declared.token.Header as token_header
use Rattle.c_token.specs.declared.token.Header.TheVariants as token_headers
use Rattle.c_token.specs.Lexemes.{Lexeme, Word}
use Rattle.c_token.specs.Lexemes as word
use Rattle.c_tree.specs.declared.declaration.Header.{Header}
use Rattle.c_tree.specs.declared.declaration.Header.TheVariants as headers
use Rattle.c_tree.specs.Expressions.{NameTree}
use Rattle.c_tree.specs.Declarations.{ParameterTree}
use Rattle.c_tree.specs.Statements.{BlockTree}
use Rattle.c_tree.specs.Trees.{FunctionTree, ItemTree, Include, Declares, Defines}
use Rattle.c_parse_tokens.specs.declared.fault.Stuck.{Stuck}
use Rattle.c_parse_tokens.specs.declared.fault.Stuck.TheVariants.{At, AtEnd}
use Rattle.c_parse_tokens.specs.declared.fault.ParseErr.{ParseErr}
use Rattle.c_parse_tokens.specs.declared.fault.ParseErr.TheVariants as errors
use Rattle.c_parse_tokens.specs.declared.mark.Mark.TheVariants as mark
use Rattle.c_parse_tokens.specs.declared.specifier.Place.TheVariants as place
use Rattle.c_parse_tokens.specs.declared.specifier.SpecifierList.{SpecifierList}
use Rattle.c_parse_tokens.specs.Outcome.{Parser, ◌>>=◌}
use Rattle.c_parse_tokens.specs.Front.{stuck, is_at, tokens_behind, want, spot_at, last_before, extent_before, separated}
use Rattle.c_parse_tokens.specs.Specifiers.{specifiers, integer_type, base_of, stars}
use Rattle.c_parse_expressions.specs.Expressions.{nesting}
use Rattle.c_parse_statements.specs.Declarations.{identifier, brackets, named_declarator, begun_declaration}
use Rattle.c_parse_statements.specs.Statements.{block, statements}

-- a lexeme is an identifier
abbrev pub is_name_word : Word → Bool
is_name_word (word.Name name) = true
is_name_word w = false

-- the first token is a name
abbrev pub begins_with_name : List Lexeme → Bool
begins_with_name [] = false
begins_with_name (t ∷ ts) = is_name_word t.kind

-- the name of a parameter, if one stands at the front
unfoldable pub parameter_name : Parser (Option NameTree)
parameter_name ts = if begins_with_name ts then (identifier ts >>= λ n. Ok (Some n.0, n.1)) else Ok (None, ts)

-- a parameter; its extent begins behind the specifiers
unfoldable pub parameter : ℕ → Parser ParameterTree
parameter depth ts =
    specifiers place.Object ts >>= λ found. parameter_name (stars found.1).1 >>= λ n. brackets (nesting depth) n.1
    >>= λ b.
    Ok (
      record {
        extent = record { first = spot_at found.1; last = last_before ts b.1 };
        type = integer_type found.0;
        stars = (stars found.1).0;
        name = n.0;
        brackets = b.0;
      },
      b.1,
    )

-- the parameters of a function, up to the closing parenthesis; `(void)` and `()` have none
unfoldable pub parameters : ℕ → Parser (List ParameterTree)
parameters depth ts =
    if is_at mark.CloseParenthesis ts then Ok ([], ts)
    else option_map_or (λ rest. Ok ([], rest)) (tokens_behind mark.Void ts)
    (parameter depth ts >>= λ p. separated (length p.1) (parameter depth) (p.0 ∷ []) p.1)

-- each parameter has a name
abbrev pub are_named : List ParameterTree → Bool
are_named [] = true
are_named (p ∷ ps) = if is_some p.name then are_named ps else false

-- the body of a function whose parameters all have names, or the semicolon of one that is only declared
unfoldable pub body : ℕ → List ParameterTree → Parser (Option BlockTree)
body depth ps ts =
    option_map_or (λ rest. Ok (None, rest)) (tokens_behind mark.Semicolon ts)
    (if are_named ps then (block (statements depth) true ts >>= λ b. Ok (Some b.0, b.1)) else Err (stuck ts))

-- a function whose declarator begins at the start, behind the parenthesis that follows its name
unfoldable pub function : ℕ → SpecifierList → (start : List Lexeme) → (stars : ℕ) → NameTree → Parser FunctionTree
function depth found start count name ts =
    parameters (depth - 1) ts >>= λ ps. want mark.CloseParenthesis ps.1 >>= λ rest. body depth ps.0 rest >>= λ b.
    Ok (
      record {
        extent = extent_before start rest;
        base = base_of found;
        stars = count;
        name = name;
        parameters = ps.0;
        body = b.0;
      },
      b.1,
    )

-- `*` stand behind an integer type alone
unfoldable pub result_stars : SpecifierList → List Lexeme → ℕ × List Lexeme
result_stars found ts = if found.is_void then (0, ts) else stars ts

-- a declaration of objects, whose first declarator begins at the start, behind its name; of `void` there are none
unfoldable pub objects : ℕ → SpecifierList → (whole start : List Lexeme) → (stars : ℕ) → NameTree → Parser ItemTree
objects depth found whole start count name ts =
    if found.is_void then Err (stuck ts)
    else
    (named_declarator depth start count name ts >>= λ d. begun_declaration depth whole (integer_type found) d.0 d.1
    >>= λ x. Ok (Declares x.0, x.1))

-- a function, or a declaration of objects
unfoldable pub external : ℕ → Parser ItemTree
external depth ts =
    specifiers place.File ts >>= λ found. identifier (result_stars found.0 found.1).1 >>= λ name.
    option_map_or
    (λ its. function depth found.0 found.1 (result_stars found.0 found.1).0 name.0 its
    >>= λ f. Ok (Defines f.0, f.1))
    (tokens_behind mark.OpenParenthesis name.1)
    (objects depth found.0 ts found.1 (result_stars found.0 found.1).0 name.0 name.1)

-- the header that a lexeme names
abbrev pub header : token_header.Header → Header
header token_headers.Stdio = headers.Stdio
header token_headers.Stdlib = headers.Stdlib

-- a line that includes a header, a function, or a declaration of objects
abbrev pub item_of : ℕ → Word → Lexeme → Parser ItemTree
item_of depth (word.Include h) t ts = Ok (Include t.spot (header h), ts)
item_of depth w t ts = external depth (t ∷ ts)

-- a declaration, a function or an include at the outermost level (C11 6.9)
unfoldable pub item : ℕ → Parser ItemTree
item depth [] = Err (stuck [])
item depth (t ∷ ts) = item_of depth t.kind t ts

-- the items of a file, behind those that were read, up to the end of the tokens; as many as there are tokens are enough
abbrev pub items_from : ℕ → ℕ → List ItemTree → List Lexeme → Result (List ItemTree) Stuck
items_from zero depth done ts = Ok done
items_from (suc n) depth done [] = Ok done
items_from (suc n) depth done (t ∷ ts) = item depth (t ∷ ts) >>= λ i. items_from n depth (done ++ i.0 ∷ []) i.1

-- the items of a file
unfoldable pub items : ℕ → List Lexeme → Result (List ItemTree) Stuck
items depth ts = items_from (length ts) depth [] ts

-- the line of the last token
unfoldable pub last_line : List Lexeme → ℕ
last_line ts = (spot_at (drop (length ts - 1) ts)).line

-- the code and the line of the token before which reading stops; at the end of the tokens the line is the last one's
abbrev pub fault_of_stuck : List Lexeme → Stuck → Code × ℕ
fault_of_stuck ts (At code line) = (code, line)
fault_of_stuck ts AtEnd = (UNEXPECTED_TOKEN, last_line ts)

-- the items that were read, or the refusal of the source where reading was stuck
abbrev pub answer : List Lexeme → Result (List ItemTree) Stuck → Result (List ItemTree) (Code × ℕ)
answer ts (Ok items) = Ok items
answer ts (Err stuck) = Err (fault_of_stuck ts stuck)

-- the tree of the tokens of a source, in which they nest 64 deep at most, or the code and the line of its first fault
unfoldable pub tree_of : List Lexeme → Result (List ItemTree) (Code × ℕ)
tree_of ts = answer ts (items 64 ts)

-- an error of reading becomes the refusal of a source
abbrev pub RefusedFor : List Lexeme → ParseErr → SourceErr → Type 0
RefusedFor ts errors.NoMemory e = e ≡ source.NoMemory
RefusedFor ts (errors.Stuck s) e = e ≡ source.Refused (fault_of_stuck ts s).0 (fault_of_stuck ts s).1
