-- What is read as a declaration of objects stands in its tokens in order, and is formed.
use Rattle.std.proofs.Common.{◌≡◌, ℕ, zero, suc, true, List, [], ◌∷◌, ◌++◌, length, Option, Some, None, refl, ap}
use Rattle.debug_records.specs.declared.source.Spot.{Spot}
use Rattle.c_token.specs.Lexemes.{Lexeme, Word}
use Rattle.c_token.specs.Lexemes as word
use Rattle.c_tree.specs.declared.types.IntegerType.{IntegerType}
use Rattle.c_tree.specs.Expressions.{NameTree}
use Rattle.c_tree.specs.Declarations.{BracketsTree, InitializerTree, chain_of_initializers, DeclaratorTree}
use Rattle.c_parse_tokens.specs.declared.mark.Mark.TheVariants as mark
use Rattle.c_parse_tokens.specs.declared.specifier.Place.TheVariants as place
use Rattle.c_parse_tokens.specs.Outcome.{Parser}
use Rattle.c_parse_tokens.specs.Front.{is_at, tokens_behind, separated}
use Rattle.c_parse_tokens.specs.Specifiers.{specifiers, integer_type, stars}
use Rattle.c_parse_expressions.specs.declared.expression.Sort.TheVariants as sort
use Rattle.c_parse_expressions.specs.Expressions.{Nesting, nested, assignment, nesting}
use Rattle.c_parse_statements.specs.Declarations.{identifier_of, identifier, brackets, nested_initializer, more_in_braces, in_braces, initializer_in, within_braces, initializer, are_empty, initialized, named_declarator, declarator, begun_declaration, declaration}
use Rattle.c_type_laws.specs.Names.{is_name}
use Rattle.c_source.specs.Formed.{AreInitializersFormed, AreDeclaratorsFormed}
use Rattle.c_source.specs.TextOrder.{spots_of_initializer, spots_of_initializers, spots_of_declarator, spots_of_declarators}
use Rattle.c_source.specs.Tokens.{IsSound, AreSound}
use Rattle.c_source.specs.Standing.{Stand, none, told, Found, plain, spots_of_many, AreAllFormed, many}
use Rattle.c_source.specs.Trees.{expressions, names, sizes, initializers, initializer_lists, optional_initializers, declarators, declarations}
use Rattle.c_source.proofs.Bytes.{by_test}
use Rattle.c_source.proofs.Standing.{join, trail, silent, same_spots, next, seen, option_next, one_more, formed_on, only_one}
use Rattle.c_source.proofs.Fronts.{behind_leads, want_next, specifiers_found, stars_pass, separated_found}
use Rattle.c_source.proofs.CReadingsExpressions.{AreGood, nested_found, assignment_found, nesting_good}

name_of : (w : Word) (t : Lexeme) (ts : List Lexeme) → IsSound w → AreSound ts → Found names (t ∷ ts) (identifier_of w t ts)
name_of (word.Name name) t ts name_sound h = (told t none, name_sound, h)
name_of w t ts w_sound h = tt

pub identifier_found : (ts : List Lexeme) → AreSound ts → Found names ts (identifier ts)
unfolding identifier
identifier_found [] h = tt
identifier_found (t ∷ ts) h = name_of t.kind t ts h.0 h.1

pub brackets_found : (nest : Nesting) (ts : List Lexeme) → AreGood nest → AreSound ts → Found sizes ts (brackets nest ts)
unfolding brackets
brackets_found nest ts good h =
    option_next sizes ts ts (tokens_behind mark.OpenBracket ts) _ _ (behind_leads mark.OpenBracket ts h)
    (λ its r u. option_next sizes its ts (tokens_behind mark.CloseBracket its) _ _ (behind_leads mark.CloseBracket its u)
    (λ rest q v. (trail (silent r) (silent q), tt, v))
    (next expressions sizes its ts (nested nest sort.Assignment its) _ (nested_found nest sort.Assignment its good u)
    (λ e s f v. want_next sizes mark.CloseBracket e.1 ts _ v (λ rest q w. (join (silent r) (trail s (silent q)), f, w)))))
    (none, tt, h)

-- ---- initializers

-- what may stand in braces finds initializers
abbrev IsGood : Option (Parser InitializerTree) → Type 0
IsGood None = Unit {0}
IsGood (Some read) = (ts : List Lexeme) → AreSound ts → Found initializers ts (read ts)

nested_initializer_found : (within : Option (Parser InitializerTree)) (ts : List Lexeme) → IsGood within → AreSound ts → Found initializers ts (nested_initializer within ts)
unfolding nested_initializer
nested_initializer_found None ts g h = tt
nested_initializer_found (Some read) ts g h = g ts h

as_initializers : (all : List InitializerTree) → spots_of_many initializers all ≡ spots_of_initializers (chain_of_initializers all)
as_initializers [] = refl
as_initializers (i ∷ all) = ap (λ (l : List Spot). spots_of_initializer i ++ l) (as_initializers all)

formed_initializers : (all : List InitializerTree) → AreAllFormed initializers all → AreInitializersFormed (chain_of_initializers all)
formed_initializers [] h = tt
formed_initializers (i ∷ all) h = (h.0, formed_initializers all h.1)

module _ (within : Option (Parser InitializerTree)) (good : IsGood within) where
  more_found : (n : ℕ) (done : List InitializerTree) (ts whole : List Lexeme) → Stand (spots_of_many initializers done) whole ts → AreAllFormed initializers done → AreSound ts
      → Found (many initializers) whole (more_in_braces n within done ts)
  more_found zero done ts whole s f h = (s, f, h)
  more_found (suc n) done ts whole s f h =
      option_next (many initializers) ts whole (tokens_behind mark.Comma ts) _ _ (behind_leads mark.Comma ts h)
      (λ after r u. by_test (Found (many initializers) whole) (is_at mark.CloseBrace after) _ _ (λ _. (trail s (silent r), f, u))
      (λ _. next initializers (many initializers) after whole (nested_initializer within after) _ (nested_initializer_found within after good u)
      (λ i q g v. more_found n (done ++ i.0 ∷ []) i.1 whole (one_more initializers done i.0 whole after i.1 (trail s (silent r)) q) (formed_on initializers done i.0 f g) v)))
      (s, f, h)

  in_braces_found : (ts : List Lexeme) → AreSound ts → Found initializer_lists ts (in_braces within ts)
  unfolding in_braces
  in_braces_found ts h =
      seen (many initializers) initializer_lists ts _ as_initializers formed_initializers
      (next initializers (many initializers) ts ts (nested_initializer within ts) _ (nested_initializer_found within ts good h)
      (λ i s f u. more_found (length i.1) (i.0 ∷ []) i.1 ts (only_one initializers i.0 ts i.1 s) (f, tt) u))

initializer_in_found : (nest : Nesting) (within : Option (Parser InitializerTree)) (ts : List Lexeme) → AreGood nest → IsGood within → AreSound ts → Found initializers ts (initializer_in nest within ts)
unfolding initializer_in
initializer_in_found nest within ts good inner h =
    option_next initializers ts ts (tokens_behind mark.OpenBrace ts) _ _ (behind_leads mark.OpenBrace ts h)
    (λ its r u. next initializer_lists initializers its ts (in_braces within its) _ (in_braces_found within inner its u)
    (λ all s f v. want_next initializers mark.CloseBrace all.1 ts _ v (λ rest q w. (join (silent r) (trail s (silent q)), f, w))))
    (next expressions initializers ts ts (assignment nest ts) _ (assignment_found nest good ts h) (λ e s f u. (s, f, u)))

within_good : (depth : ℕ) → IsGood (within_braces depth)
unfolding within_braces
within_good zero = tt
within_good (suc depth) = λ ts h. initializer_in_found (nesting depth) (within_braces depth) ts (nesting_good depth) (within_good depth) h

initializer_found : (depth : ℕ) (ts : List Lexeme) → AreSound ts → Found initializers ts (initializer depth ts)
unfolding initializer
initializer_found depth ts h = initializer_in_found (nesting depth) (within_braces depth) ts (nesting_good depth) (within_good depth) h

-- ---- declarators

initialized_found : (depth : ℕ) (b : BracketsTree) (ts : List Lexeme) → AreSound ts → Found optional_initializers ts (initialized depth b ts)
unfolding initialized
initialized_found depth b ts h =
    option_next optional_initializers ts ts (tokens_behind mark.Equal ts) _ _ (behind_leads mark.Equal ts h)
    (λ rest r u. next initializers optional_initializers rest ts (initializer depth rest) _ (initializer_found depth rest u) (λ i s f v. (join (silent r) s, f, v)))
    (by_test (Found optional_initializers ts) (are_empty b) _ _ (λ _. tt) (λ _. (none, tt, h)))

pub named_found : (depth : ℕ) (begin : List Lexeme) (count : ℕ) (name : NameTree) (ts whole : List Lexeme) → Stand (name.spot ∷ []) whole ts → is_name name.name ≡ true → AreSound ts → Found declarators whole (named_declarator depth begin count name ts)
unfolding named_declarator
named_found depth begin count name ts whole s n h =
    next sizes declarators ts whole (brackets (nesting depth) ts) _ (brackets_found (nesting depth) ts (nesting_good depth) h)
    (λ b r f u. next optional_initializers declarators b.1 whole (initialized depth b.0 b.1) _ (initialized_found depth b.0 b.1 u)
    (λ i q g v. (join s (join r q), (f, g, n), v)))

pub declarator_found : (depth : ℕ) (ts : List Lexeme) → AreSound ts → Found declarators ts (declarator depth ts)
unfolding declarator
declarator_found depth ts h =
    let p = stars_pass ts h in
    next names declarators (stars ts).1 ts (identifier (stars ts).1) _ (identifier_found (stars ts).1 p.1)
    (λ name s f u. named_found depth ts (stars ts).0 name.0 name.1 ts (join p.0 s) f u)

as_declarators : (all : List DeclaratorTree) → spots_of_many declarators all ≡ spots_of_declarators all
as_declarators [] = refl
as_declarators (d ∷ all) = ap (λ (l : List Spot). spots_of_declarator d ++ l) (as_declarators all)

formed_declarators : (all : List DeclaratorTree) → AreAllFormed declarators all → AreDeclaratorsFormed all
formed_declarators [] h = tt
formed_declarators (d ∷ all) h = (h.0, formed_declarators all h.1)

pub begun_found : (depth : ℕ) (begin : List Lexeme) (type : IntegerType) (d : DeclaratorTree) (ts whole : List Lexeme) → Stand (spots_of_declarator d) whole ts → declarators.formed d → AreSound ts
    → Found declarations whole (begun_declaration depth begin type d ts)
unfolding begun_declaration
begun_found depth begin type d ts whole s f h =
    next (many declarators) declarations whole whole (separated (length ts) (declarator depth) (d ∷ []) ts) _
    (separated_found declarators (length ts) (declarator depth) (λ us v. declarator_found depth us v) (d ∷ []) ts whole (only_one declarators d whole ts s) (f, tt) h)
    (λ all r g u. want_next declarations mark.Semicolon all.1 whole _ u (λ rest q v. (same_spots (as_declarators all.0) (trail r (silent q)), formed_declarators all.0 g, v)))

pub declaration_found : (depth : ℕ) (ts : List Lexeme) → AreSound ts → Found declarations ts (declaration depth ts)
unfolding declaration
declaration_found depth ts h =
    next plain declarations ts ts (specifiers place.Object ts) _ (specifiers_found place.Object ts h)
    (λ found r _ u. next declarators declarations found.1 ts (declarator depth found.1) _ (declarator_found depth found.1 u)
    (λ d s f v. begun_found depth ts (integer_type found.0) d.0 d.1 ts (join r s) f v))
