-- A declaration that tokens spell is read from them, where it nests no deeper than it may.
use Rattle.std.proofs.Common.{◌≡◌, ◌≢◌, ℕ, zero, suc, ◌<◌, ◌≤◌, Bool, true, false, List, [], ◌∷◌, ◌++◌, length, Option, None, Ok, refl, sym, ap, ◌∙◌, subst, arith}
use Rattle.debug_records.specs.declared.source.Spot.{Spot}
use Rattle.c_token.specs.declared.token.Punctuator.{Punctuator}
use Rattle.c_token.specs.declared.token.Punctuator.TheVariants as punctuator
use Rattle.c_token.specs.Lexemes.{Lexeme, Word}
use Rattle.c_tree.specs.declared.extent.Extent.{Extent}
use Rattle.c_tree.specs.declared.types.IntegerType.{IntegerType}
use Rattle.c_tree.specs.Expressions.{ExpressionTree, NameTree}
use Rattle.c_tree.specs.Declarations.{BracketsTree, Absent, Empty, Sized, InitializerTree, Value, Braces, chain_of_initializers, DeclaratorTree, DeclarationTree}
use Rattle.c_parse_tokens.specs.declared.mark.Mark.{Mark}
use Rattle.c_parse_tokens.specs.declared.mark.Mark.TheVariants as mark
use Rattle.c_parse_tokens.specs.Outcome.{Parser}
use Rattle.c_parse_tokens.specs.Front.{is, is_at, spot_at, last_before, extent_before, separated}
use Rattle.c_parse_tokens.specs.Operators.{begins_expression}
use Rattle.c_parse_tokens.specs.Specifiers.{specifiers, integer_type, is_star, stars}
use Rattle.c_parse_expressions.specs.declared.expression.Sort.TheVariants as sort
use Rattle.c_parse_expressions.specs.Expressions.{assignment, nesting}
use Rattle.c_parse_statements.specs.Declarations.{identifier_of, identifier, brackets, nested_initializer, more_in_braces, in_braces, initializer_in, within_braces, initializer, are_empty, initialized, named_declarator, declarator, begun_declaration, declaration}
use Rattle.c_parse.specs.Tokens.{Grammar, IsPunctuator, IsName}
use Rattle.c_parse.specs.Declarations.{AreBrackets, no_brackets, empty, sized, IsInitializer, value, braces, braces_with_comma, AreInitializers, only, another, IsInitialized, no_initializer, IsNamed, IsDeclarator, Separated, first, further, IsDeclaration}
use Rattle.c_parse.specs.Declarations as grammar
use Rattle.c_parse.proofs.Nesting.{Within, SizeNests, InitializerNests, InitializersNest, InitialNests, DeclaratorNests, DeclaratorsNest, DeclarationNests}
use Rattle.c_parse.proofs.Words.{word_of, is_word}
use Rattle.c_parse.proofs.Passing.{Passes, join, no_longer, last_known}
use Rattle.c_parse.proofs.ExpressionsPass.{specifiers_pass}
use Rattle.c_parse.proofs.DeclarationsPass.{initializer_passes, declarator_passes, separated_pass}
use Rattle.c_parse.proofs.Binding.{rank, binding, binding_at, loose, no_mark, no_comma, followed, there_is, there_is_none, at_mark, behind_mark, wanted, separated_step, separated_end}
use Rattle.c_parse.proofs.Fronts.{assignment_begins, no_end, keyword_at, specifiers_read, star_at, stars_read, stars_no_keyword}
use Rattle.c_parse.proofs.CompleteExpressions.{nested_read, read, assignment_read}

-- a mark that binds tighter than the first token does not stand there
pub not_at : (m : Mark) (ts : List Lexeme) → binding (word_of m) < binding_at ts → is_at m ts ≡ false
unfolding is_at
not_at m [] h = refl
not_at m (t ∷ ts) h = by (is m t.kind) refl
  where
    by : (b : Bool) → is m t.kind ≡ b → b ≡ false
    by false e = refl
    by true e = let same : binding t.kind ≡ binding (word_of m) = ap binding (is_word m t.kind e) in absurd (omega (arith, same, h))

-- the first token is a punctuator that ends items: `,` or one that does not bind
abbrev pub Ends : List Lexeme → Type 0
Ends [] = ⊥
Ends (t ∷ ts) = (p : Punctuator) × IsPunctuator p t × (13 < rank p)

pub ends_loose : (ts : List Lexeme) → Ends ts → 13 < binding_at ts
ends_loose [] h = elim h [ ]
ends_loose (t ∷ ts) h = loose t ts 13 h.1 h.2

-- ---- names

pub name_read : (n : NameTree) (t : Lexeme) (ts : List Lexeme) → IsName n t → identifier (t ∷ ts) ≡ Ok (n, ts)
unfolding identifier
name_read n t ts k =
    subst (λ (w : Word). identifier_of w t ts ≡ Ok (n, ts)) (sym k.0) (ap (λ (s : Spot). read (record { name = n.name; spot = s }) ts) k.1)

pub name_no_keyword : (n : NameTree) (t : Lexeme) (ts : List Lexeme) → IsName n t → keyword_at (t ∷ ts) ≡ None
name_no_keyword n t ts k = ap Rattle.c_parse_tokens.specs.Specifiers.keyword_of_word k.0

pub name_no_star : (n : NameTree) (t : Lexeme) (ts : List Lexeme) → IsName n t → star_at (t ∷ ts) ≡ false
name_no_star n t ts k = ap is_star k.0

-- ---- brackets

pub brackets_read : {b : BracketsTree} {ts rest : List Lexeme} → AreBrackets b ts rest → (depth : ℕ) → SizeNests b depth → 1 < binding_at rest → brackets (nesting depth) ts ≡ Ok (b, rest)
unfolding brackets
brackets_read (no_brackets {rest = rest}) depth d b = there_is_none _ (no_mark mark.OpenBracket rest (not_at mark.OpenBracket rest b)) refl
brackets_read (empty {opening = o} {closing = c} {rest = rest} k e) depth d b = there_is _ _ (behind_mark mark.OpenBracket o (c ∷ rest) k) (there_is _ _ (behind_mark mark.CloseBracket c rest e) refl)
brackets_read (sized {opening = o} {closing = c} {e = e} {ts = ts} {rest = rest} k x i) depth d b =
    there_is _ _ (behind_mark mark.OpenBracket o ts k)
    (there_is_none _ (no_mark mark.CloseBracket ts (no_end mark.CloseBracket ts refl (assignment_begins x)))
    (followed _ (nested_read depth sort.Assignment e ts (c ∷ rest) d (λ n f. assignment_read x n f (loose c rest 13 i (omega arith)))) (followed _ (wanted mark.CloseBracket c rest i) refl)))

-- ---- initializers

-- each of several initializers nests within braces
abbrev AllWithin : List InitializerTree → ℕ → Type 0
AllWithin [] depth = Unit {0}
AllWithin (i ∷ all) depth = Within depth (λ d. InitializerNests i d) × AllWithin all depth

all_within : (all : List InitializerTree) (depth : ℕ) → Within depth (λ d. InitializersNest (chain_of_initializers all) d) → AllWithin all depth
all_within all zero h = elim h [ ]
all_within [] (suc depth) h = tt
all_within (i ∷ all) (suc depth) h = (h.0, all_within all (suc depth) h.1)

within_before : (all : List InitializerTree) (i : InitializerTree) (depth : ℕ) → AllWithin (all ++ i ∷ []) depth → AllWithin all depth × Within depth (λ d. InitializerNests i d)
within_before [] i depth h = (tt, h.0)
within_before (x ∷ all) i depth h = let g = within_before all i depth h.1 in ((h.0, g.0), g.1)

inner_read : (depth : ℕ) (i : InitializerTree) (ts rest : List Lexeme) → Within depth (λ d. InitializerNests i d)
    → ((d : ℕ) → InitializerNests i d → initializer_in (nesting d) (within_braces d) ts ≡ Ok (i, rest)) → nested_initializer (within_braces depth) ts ≡ Ok (i, rest)
unfolding nested_initializer within_braces
inner_read zero i ts rest n f = elim n [ ]
inner_read (suc depth) i ts rest n f = f depth n

-- initializers in braces are read, and those behind them go on
abbrev ListGoes : ℕ → List InitializerTree → List Lexeme → List Lexeme → Type 0
ListGoes depth all ts rest = (m : ℕ) × (length rest ≤ m) × (in_braces (within_braces depth) ts ≡ more_in_braces m (within_braces depth) all rest)

list_begun : (depth : ℕ) (i : InitializerTree) (ts rest : List Lexeme) → nested_initializer (within_braces depth) ts ≡ Ok (i, rest) → ListGoes depth (i ∷ []) ts rest
unfolding in_braces
list_begun depth i ts rest r = (length rest, omega arith, followed _ r refl)

list_on : (depth : ℕ) (all : List InitializerTree) (i : InitializerTree) (t : Lexeme) (ts mid rest : List Lexeme) → ListGoes depth all ts (t ∷ mid) → IsPunctuator punctuator.Comma t → is_at mark.CloseBrace mid ≡ false
    → nested_initializer (within_braces depth) mid ≡ Ok (i, rest) → length rest ≤ length mid → ListGoes depth (all ++ i ∷ []) ts rest
list_on depth all i t ts mid rest (zero, le, g) k e r shorter = absurd (omega (arith, le))
list_on depth all i t ts mid rest (suc m, le, g) k e r shorter =
    (m, omega (arith, le, shorter), g ∙ there_is _ _ (behind_mark mark.Comma t mid k) (rw e (followed _ r refl)))

list_end : (depth : ℕ) (all : List InitializerTree) (c : Lexeme) (ts rest : List Lexeme) → ListGoes depth all ts (c ∷ rest) → IsPunctuator punctuator.CloseBrace c → in_braces (within_braces depth) ts ≡ Ok (all, c ∷ rest)
list_end depth all c ts rest (zero, le, g) k = g
list_end depth all c ts rest (suc m, le, g) k = g ∙ there_is_none _ (no_comma (c ∷ rest) (loose c rest 14 k (omega arith))) refl

list_end_comma : (depth : ℕ) (all : List InitializerTree) (t c : Lexeme) (ts rest : List Lexeme) → ListGoes depth all ts (t ∷ c ∷ rest) → IsPunctuator punctuator.Comma t → IsPunctuator punctuator.CloseBrace c
    → in_braces (within_braces depth) ts ≡ Ok (all, c ∷ rest)
unfolding is_at
list_end_comma depth all t c ts rest (zero, le, g) k e = absurd (omega (arith, le))
list_end_comma depth all t c ts rest (suc m, le, g) k e =
    let i = at_mark mark.CloseBrace c e in g ∙ there_is _ _ (behind_mark mark.Comma t (c ∷ rest) k) (rw i refl)

initializer_begins : {i : InitializerTree} {ts rest : List Lexeme} → IsInitializer i ts rest → is_at mark.CloseBrace ts ≡ false
unfolding is_at
initializer_begins (value {ts = ts} e) = no_end mark.CloseBrace ts refl (assignment_begins e)
initializer_begins (braces o all c) = ap (is mark.CloseBrace) o
initializer_begins (braces_with_comma o all k c) = ap (is mark.CloseBrace) o

value_read : (depth : ℕ) (e : ExpressionTree) (ts rest : List Lexeme) → begins_expression ts ≡ true → assignment (nesting depth) ts ≡ Ok (e, rest) → initializer_in (nesting depth) (within_braces depth) ts ≡ Ok (Value e, rest)
unfolding initializer_in
value_read depth e ts rest b r = there_is_none _ (no_mark mark.OpenBrace ts (no_end mark.OpenBrace ts refl b)) (followed _ r refl)

braces_read : (depth : ℕ) (o c : Lexeme) (all : List InitializerTree) (ts rest : List Lexeme) → IsPunctuator punctuator.OpenBrace o → in_braces (within_braces depth) ts ≡ Ok (all, c ∷ rest) → IsPunctuator punctuator.CloseBrace c
    → initializer_in (nesting depth) (within_braces depth) (o ∷ ts) ≡ Ok (Braces (chain_of_initializers all), rest)
unfolding initializer_in
braces_read depth o c all ts rest k r e = there_is _ _ (behind_mark mark.OpenBrace o ts k) (followed _ r (followed _ (wanted mark.CloseBrace c rest e) refl))

mutual
  pub initializer_in_read : {i : InitializerTree} {ts rest : List Lexeme} → IsInitializer i ts rest → (depth : ℕ) → InitializerNests i depth → 13 < binding_at rest → initializer_in (nesting depth) (within_braces depth) ts ≡ Ok (i, rest)
  initializer_in_read (value {e = e} {ts = ts} {rest = rest} x) depth d b = value_read depth e ts rest (assignment_begins x) (assignment_read x depth d b)
  initializer_in_read (braces {opening = o} {closing = c} {all = all} {ts = ts} {rest = rest} k x e) depth d b =
      braces_read depth o c all ts rest k (list_end depth all c ts rest (initializers_go x depth (all_within all depth d) (loose c rest 13 e (omega arith))) e) e
  initializer_in_read (braces_with_comma {opening = o} {comma = t} {closing = c} {all = all} {ts = ts} {rest = rest} k x i e) depth d b =
      braces_read depth o c all ts rest k (list_end_comma depth all t c ts rest (initializers_go x depth (all_within all depth d) (loose t (c ∷ rest) 13 i (omega arith))) i e) e

  pub initializers_go : {all : List InitializerTree} {ts rest : List Lexeme} → AreInitializers all ts rest → (depth : ℕ) → AllWithin all depth → 13 < binding_at rest → ListGoes depth all ts rest
  initializers_go (only {i = i} {ts = ts} {rest = rest} x) depth d b = list_begun depth i ts rest (inner_read depth i ts rest d.0 (λ n f. initializer_in_read x n f b))
  initializers_go (another {t = t} {all = all} {i = i} {ts = ts} {mid = mid} {rest = rest} xs k x) depth d b =
      let n = within_before all i depth d in
      list_on depth all i t ts mid rest (initializers_go xs depth n.0 (loose t mid 13 k (omega arith))) k (initializer_begins x) (inner_read depth i mid rest n.1 (λ m f. initializer_in_read x m f b)) (no_longer (initializer_passes x))

-- ---- declarators

no_empty : (b : BracketsTree) → b ≢ Empty → are_empty b ≡ false
no_empty Empty h = absurd (h refl)
no_empty Absent h = refl
no_empty (Sized e) h = refl

pub initialized_read : {b : BracketsTree} {i : Option InitializerTree} {ts rest : List Lexeme} → IsInitialized b i ts rest → (depth : ℕ) → InitialNests i depth → 13 < binding_at rest → initialized depth b ts ≡ Ok (i, rest)
unfolding initialized initializer
initialized_read (no_initializer {b = b} {rest = rest} e) depth d h = there_is_none _ (no_mark mark.Equal rest (not_at mark.Equal rest h)) (let n = no_empty b e in rw n refl)
initialized_read (grammar.initialized {t = t} {ts = ts} k x) depth d h = there_is _ _ (behind_mark mark.Equal t ts k) (followed _ (initializer_in_read x depth d h) refl)

-- what stands behind brackets does not go on with them
pub initial_loose : {b : BracketsTree} {i : Option InitializerTree} {ts rest : List Lexeme} → IsInitialized b i ts rest → 13 < binding_at rest → 1 < binding_at ts
initial_loose (no_initializer e) h = omega (arith, h)
initial_loose (grammar.initialized {t = t} {ts = ts} k x) h = loose t ts 1 k (omega arith)

pub named_read : {begin : List Lexeme} {d : DeclaratorTree} {ts rest : List Lexeme} → IsNamed begin d ts rest → (depth : ℕ) → DeclaratorNests d depth → 13 < binding_at rest → named_declarator depth begin d.stars d.name ts ≡ Ok (d, rest)
unfolding named_declarator
named_read {begin} {d} {ts} {rest} n depth h b =
    followed _ (brackets_read n.brackets depth h.0 (initial_loose n.initial b)) (followed _ (initialized_read n.initial depth h.1 b)
    (ap (λ (x : Extent). read (record { extent = x; stars = d.stars; name = d.name; brackets = d.brackets; initializer = d.initializer }) rest) (sym n.extent)))

pub declarator_read : {d : DeclaratorTree} {ts rest : List Lexeme} → IsDeclarator d ts rest → (depth : ℕ) → DeclaratorNests d depth → 13 < binding_at rest → declarator depth ts ≡ Ok (d, rest)
unfolding declarator
declarator_read (grammar.declarator {t = t} {d = d} {ts = ts} {mid = mid} s k n) depth h b =
    let e = stars_read s (name_no_star d.name t mid k) in rw e (followed _ (name_read d.name t mid k) (named_read n depth h b))

pub declarator_no_keyword : {d : DeclaratorTree} {ts rest : List Lexeme} → IsDeclarator d ts rest → keyword_at ts ≡ None
declarator_no_keyword (grammar.declarator {t = t} {d = d} {mid = mid} s k n) = stars_no_keyword s (name_no_keyword d.name t mid k)

-- ---- items with commas between them

-- each of several items has a property
abbrev pub Each : {A : Type 0} → (A → Type 0) → List A → Type 0
Each N [] = Unit {0}
Each N (a ∷ all) = N a × Each N all

each_before : {A : Type 0} (N : A → Type 0) (all : List A) (a : A) → Each N (all ++ a ∷ []) → Each N all × N a
each_before N [] a h = (tt, h.0)
each_before N (x ∷ all) a h = let g = each_before N all a h.1 in ((h.0, g.0), g.1)

-- The first item, and how those behind it are read.
pub record SeparatedGo {A : Type 0} (G : Grammar A) (N : A → Type 0) (item : Parser A) (all : List A) (ts rest : List Lexeme) : Type 0 where
  pub a : A
  pub mid : List Lexeme
  pub is : G a ts mid
  pub nests : N a
  pub ends : Ends mid
  pub m : ℕ
  pub enough : length rest ≤ m
  pub goes : separated (length mid) item (a ∷ []) mid ≡ separated m item all rest

separated_on : {A : Type 0} (G : Grammar A) (N : A → Type 0) (item : Parser A) (all : List A) (b : A) (t : Lexeme) (ts mid rest : List Lexeme) → SeparatedGo G N item all ts (t ∷ mid) → IsPunctuator punctuator.Comma t
    → item mid ≡ Ok (b, rest) → length rest ≤ length mid → SeparatedGo G N item (all ++ b ∷ []) ts rest
separated_on G N item all b t ts mid rest g k r shorter = by g.m g.enough g.goes
  where
    by : (m : ℕ) → length (t ∷ mid) ≤ m → separated (length g.mid) item (g.a ∷ []) g.mid ≡ separated m item all (t ∷ mid) → SeparatedGo G N item (all ++ b ∷ []) ts rest
    by zero le e = absurd (omega (arith, le))
    by (suc m) le e =
        record { a = g.a; mid = g.mid; is = g.is; nests = g.nests; ends = g.ends; m = m; enough = omega (arith, le, shorter); goes = e ∙ separated_step m item all b t mid rest k r }

pub separated_go : {A : Type 0} (G : Grammar A) (N : A → Type 0) (item : Parser A) → ((a : A) (ts rest : List Lexeme) → G a ts rest → N a → Ends rest → item ts ≡ Ok (a, rest))
    → ((a : A) (ts rest : List Lexeme) → G a ts rest → Passes ts rest)
    → {all : List A} {ts rest : List Lexeme} → Separated G all ts rest → Each N all → Ends rest → SeparatedGo G N item all ts rest
separated_go G N item good p (first {a = a} {rest = rest} x) d b = record { a = a; mid = rest; is = x; nests = d.0; ends = b; m = length rest; enough = omega arith; goes = refl }
separated_go G N item good p (further {t = t} {all = all} {a = a} {ts = ts} {mid = mid} {rest = rest} xs k x) d b =
    let n = each_before N all a d in
    separated_on G N item all a t ts mid rest (separated_go G N item good p xs n.0 (punctuator.Comma, k, omega arith)) k (good a mid rest x n.1 b) (no_longer (p a mid rest x))

-- ---- declarations

each_declarator : (all : List DeclaratorTree) (depth : ℕ) → DeclaratorsNest all depth → Each (λ d. DeclaratorNests d depth) all
each_declarator [] depth h = tt
each_declarator (d ∷ all) depth h = (h.0, each_declarator all depth h.1)

abbrev pub DeclaratorsGo : ℕ → List DeclaratorTree → List Lexeme → List Lexeme → Type 0
DeclaratorsGo depth all ts rest = SeparatedGo IsDeclarator (λ d. DeclaratorNests d depth) (declarator depth) all ts rest

pub declarators_go : (depth : ℕ) {all : List DeclaratorTree} {ts rest : List Lexeme} → Separated IsDeclarator all ts rest → DeclaratorsNest all depth → Ends rest → DeclaratorsGo depth all ts rest
declarators_go depth {all} x d b =
    separated_go IsDeclarator (λ d. DeclaratorNests d depth) (declarator depth) (λ a ts rest y n e. declarator_read y depth n (ends_loose rest e)) (λ a ts rest y. declarator_passes y) x (each_declarator all depth d) b

pub begun_read : (depth : ℕ) (begin : List Lexeme) (type : IntegerType) (all : List DeclaratorTree) (end : Lexeme) (ts rest : List Lexeme) (g : DeclaratorsGo depth all ts (end ∷ rest)) → IsPunctuator punctuator.Semicolon end
    → last_before begin rest ≡ end.spot.at
    → begun_declaration depth begin type g.a g.mid ≡ Ok (record { extent = record { first = spot_at begin; last = end.spot.at }; type = type; declarators = all }, rest)
unfolding begun_declaration extent_before
begun_read depth begin type all end ts rest g k before =
    followed _ (g.goes ∙ separated_end g.m (declarator depth) all (end ∷ rest) (loose end rest 14 k (omega arith))) (followed _ (wanted mark.Semicolon end rest k)
    (ap (λ (n : ℕ). read (record { extent = record { first = spot_at begin; last = n }; type = type; declarators = all }) rest) before))

pub declaration_read : {d : DeclarationTree} {ts rest : List Lexeme} → IsDeclaration d ts rest → (depth : ℕ) → DeclarationNests d depth → declaration depth ts ≡ Ok (d, rest)
unfolding declaration
declaration_read (grammar.declaration {end = end} {found = found} {all = all} {ts = ts} {mid = mid} {rest = rest} s x k) depth d =
    let g = declarators_go depth x d (punctuator.Semicolon, k, omega arith) in
    followed _ (specifiers_read s (declarator_no_keyword g.is)) (followed _ (declarator_read g.is depth g.nests (ends_loose g.mid g.ends))
    (begun_read depth ts (integer_type found) all end mid rest g k (last_known (join (specifiers_pass s.words) (separated_pass (λ a us more y. declarator_passes y) x)))))
