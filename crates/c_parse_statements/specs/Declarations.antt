-- Declarations of objects, and initializers.
use Rattle.std.specs.Prelude.{ℕ, zero, suc, Bool, true, false, ◌||◌, if◌then◌else◌, List, [], ◌∷◌, ◌++◌, length, Option, Some, None, Ok, Err}
use Rattle.std.specs.Option.{option_map_or}
use Rattle.c_token.specs.Lexemes.{Lexeme, Word}
use Rattle.c_token.specs.Lexemes as word
use Rattle.c_tree.specs.declared.types.IntegerType.{IntegerType}
use Rattle.c_tree.specs.Expressions.{NameTree}
use Rattle.c_tree.specs.Declarations.{BracketsTree, Absent, Empty, Sized, InitializerTree, Value, Braces, chain_of_initializers, DeclaratorTree, DeclarationTree}
use Rattle.c_parse_expressions.specs.declared.expression.Sort.TheVariants as sort
use Rattle.c_parse_tokens.specs.declared.mark.Mark.TheVariants as mark
use Rattle.c_parse_tokens.specs.declared.specifier.Place.TheVariants as place
use Rattle.c_parse_tokens.specs.Outcome.{Parser, ◌>>=◌}
use Rattle.c_parse_tokens.specs.Front.{stuck, refusal, is_at, tokens_behind, want, extent_before, separated}
use Rattle.c_parse_tokens.specs.Operators.{begins_expression}
use Rattle.c_parse_tokens.specs.Specifiers.{specifiers, integer_type, stars}
use Rattle.c_parse_expressions.specs.Expressions.{Nesting, nested, assignment, nesting}

-- the name at the front
abbrev pub identifier_of : Word → Lexeme → Parser NameTree
identifier_of (word.Name name) t ts = Ok (record { name = name; spot = t.spot }, ts)
identifier_of w t ts = Err (stuck (t ∷ ts))

-- an identifier
unfoldable pub identifier : Parser NameTree
identifier [] = Err (stuck [])
identifier (t ∷ ts) = identifier_of t.kind t ts

-- brackets behind a name, with or without a size, if they stand at the front
unfoldable pub brackets : Nesting → Parser BracketsTree
brackets nest ts =
    option_map_or
    (λ its. option_map_or (λ rest. Ok (Empty, rest)) (tokens_behind mark.CloseBracket its)
    (nested nest sort.Assignment its >>= λ e. want mark.CloseBracket e.1 >>= λ rest. Ok (Sized e.0, rest)))
    (tokens_behind mark.OpenBracket ts)
    (Ok (Absent, ts))

-- an initializer within braces, where the nesting allows one more
unfoldable pub nested_initializer : Option (Parser InitializerTree) → Parser InitializerTree
nested_initializer None ts = Err (refusal (is_at mark.OpenBrace ts || begins_expression ts) ts)
nested_initializer (Some read) ts = read ts

-- more initializers, each behind a comma, and a comma that may stand before the brace; as many as there are tokens are
-- enough
abbrev pub more_in_braces : ℕ → Option (Parser InitializerTree) → List InitializerTree → Parser (List InitializerTree)
more_in_braces zero within done ts = Ok (done, ts)
more_in_braces (suc n) within done ts =
    option_map_or
    (λ after. if is_at mark.CloseBrace after then Ok (done, after)
    else (nested_initializer within after >>= λ i. more_in_braces n within (done ++ i.0 ∷ []) i.1))
    (tokens_behind mark.Comma ts)
    (Ok (done, ts))

-- the initializers in braces, up to the closing brace
unfoldable pub in_braces : Option (Parser InitializerTree) → Parser (List InitializerTree)
in_braces within ts = nested_initializer within ts >>= λ i. more_in_braces (length i.1) within (i.0 ∷ []) i.1

-- an expression, or initializers in braces
unfoldable pub initializer_in : Nesting → Option (Parser InitializerTree) → Parser InitializerTree
initializer_in nest within ts =
    option_map_or
    (λ its. in_braces within its >>= λ all. want mark.CloseBrace all.1
    >>= λ rest. Ok (Braces (chain_of_initializers all.0), rest))
    (tokens_behind mark.OpenBrace ts)
    (assignment nest ts >>= λ e. Ok (Value e.0, e.1))

-- what may stand in braces where so many levels are left
unfoldable pub within_braces : ℕ → Option (Parser InitializerTree)
within_braces zero = None
within_braces (suc depth) = Some (initializer_in (nesting depth) (within_braces depth))

-- an initializer: an expression, or a list in braces (C11 6.7.9)
unfoldable pub initializer : ℕ → Parser InitializerTree
initializer depth ts = initializer_in (nesting depth) (within_braces depth) ts

-- the brackets of a declarator have nothing between them
abbrev pub are_empty : BracketsTree → Bool
are_empty Empty = true
are_empty b = false

-- the initializer behind `=`, if one stands at the front; behind empty brackets one has to stand
unfoldable pub initialized : ℕ → BracketsTree → Parser (Option InitializerTree)
initialized depth b ts =
    option_map_or (λ rest. initializer depth rest >>= λ i. Ok (Some i.0, i.1)) (tokens_behind mark.Equal ts)
    (if are_empty b then Err (stuck ts) else Ok (None, ts))

-- the declarator of an object that begins at the start, behind its name
unfoldable pub named_declarator : ℕ → (start : List Lexeme) → (stars : ℕ) → NameTree → Parser DeclaratorTree
named_declarator depth start count name ts =
    brackets (nesting depth) ts >>= λ b. initialized depth b.0 b.1 >>= λ i.
    Ok (record { extent = extent_before start i.1; stars = count; name = name; brackets = b.0; initializer = i.0 }, i.1)

-- the declarator of an object
unfoldable pub declarator : ℕ → Parser DeclaratorTree
declarator depth ts = identifier (stars ts).1 >>= λ name. named_declarator depth ts (stars ts).0 name.0 name.1

-- a declaration that begins at the start, behind its first declarator
unfoldable pub begun_declaration : ℕ → (start : List Lexeme) → IntegerType → DeclaratorTree → Parser DeclarationTree
begun_declaration depth start type d ts =
    separated (length ts) (declarator depth) (d ∷ []) ts >>= λ all. want mark.Semicolon all.1 >>= λ rest.
    Ok (record { extent = extent_before start rest; type = type; declarators = all.0 }, rest)

-- a declaration of objects in a block
unfoldable pub declaration : ℕ → Parser DeclarationTree
declaration depth ts =
    specifiers place.Object ts >>= λ found. declarator depth found.1
    >>= λ d. begun_declaration depth ts (integer_type found.0) d.0 d.1
