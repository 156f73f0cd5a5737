-- What is read as a declaration is spelled by its tokens, and nests no deeper than it may.
use Rattle.std.proofs.Common.{◌≡◌, ℕ, zero, suc, true, false, List, [], ◌∷◌, ◌++◌, length, Option, Some, refl, sym, ap, ◌∙◌, subst}
use Rattle.c_token.specs.declared.token.Punctuator.TheVariants as punctuator
use Rattle.c_token.specs.Lexemes.{Lexeme, Word}
use Rattle.c_token.specs.Lexemes as word
use Rattle.c_tree.specs.declared.types.IntegerType.{IntegerType}
use Rattle.c_tree.specs.Expressions.{NameTree}
use Rattle.c_tree.specs.Declarations.{BracketsTree, Empty, Sized, InitializerTree, Braces, chain_of_initializers, DeclaratorTree, DeclarationTree}
use Rattle.c_parse_tokens.specs.declared.mark.Mark.TheVariants as mark
use Rattle.c_parse_tokens.specs.declared.specifier.Place.TheVariants as place
use Rattle.c_parse_tokens.specs.declared.specifier.SpecifierList.{SpecifierList}
use Rattle.c_parse_tokens.specs.Outcome.{Parser}
use Rattle.c_parse_tokens.specs.Front.{is_at, tokens_behind, spot_at, last_before, extent_before}
use Rattle.c_parse_tokens.specs.Specifiers.{specifiers, integer_type, stars}
use Rattle.c_parse_expressions.specs.declared.expression.Sort.TheVariants as sort
use Rattle.c_parse_expressions.specs.Expressions.{nested, assignment, nesting}
use Rattle.c_parse_statements.specs.Declarations.{identifier_of, identifier, brackets, nested_initializer, more_in_braces, in_braces, initializer_in, within_braces, initializer, are_empty, initialized, named_declarator, declarator, begun_declaration, declaration}
use Rattle.c_parse.specs.Tokens.{Grammar, IsPunctuator, IsName}
use Rattle.c_parse.specs.Types.{Specify, AreStars}
use Rattle.c_parse.specs.Expressions.{IsAssignment}
use Rattle.c_parse.specs.Declarations.{AreBrackets, no_brackets, empty, sized, IsInitializer, value, braces, braces_with_comma, AreInitializers, only, another, IsInitialized, no_initializer, IsNamed, IsDeclarator, Separated, first, further, IsDeclaration}
use Rattle.c_parse.specs.Declarations as grammar
use Rattle.c_parse.proofs.Nesting.{Within, SizeNests, InitializerNests, InitializersNest, InitialNests, DeclaratorNests, DeclaratorsNest, DeclarationNests}
use Rattle.c_parse.proofs.Passing.{Passes, join, last_known}
use Rattle.c_parse.proofs.ExpressionsPass.{specifiers_pass}
use Rattle.c_parse.proofs.DeclarationsPass.{separated_pass, declarator_passes}
use Rattle.c_parse.proofs.Reading.{Found, by_test, next, seen, want_next, behind_next, separated_found, specifiers_found, stars_found}
use Rattle.c_parse.proofs.SoundExpressions.{IsOf, Deep, Inner, Goods, nested_found, assignment_found, all_good}

-- a name at the front
pub data NameAtFront : NameTree → List Lexeme → List Lexeme → Type 0 where
  name_at_front : {t : Lexeme} {n : NameTree} {rest : List Lexeme} → IsName n t → NameAtFront n (t ∷ rest) rest

identifier_found_of : (w : Word) (t : Lexeme) (ts : List Lexeme) → t.kind ≡ w → Found NameAtFront (t ∷ ts) (identifier_of w t ts)
identifier_found_of (word.Name name) t ts k = name_at_front (k, refl)
identifier_found_of w t ts k = tt

pub identifier_found : (ts : List Lexeme) → Found NameAtFront ts (identifier ts)
unfolding identifier
identifier_found [] = tt
identifier_found (t ∷ ts) = identifier_found_of t.kind t ts refl

-- ---- brackets

abbrev pub DeepBrackets : ℕ → Grammar BracketsTree
DeepBrackets depth b ts rest = AreBrackets b ts rest × SizeNests b depth

pub brackets_found : (depth : ℕ) (ts : List Lexeme) → Goods depth → Found (DeepBrackets depth) ts (brackets (nesting depth) ts)
unfolding brackets tokens_behind
brackets_found depth [] good = (no_brackets, tt)
brackets_found depth (t ∷ ts) good =
    behind_next (DeepBrackets depth) mark.OpenBracket (t ∷ ts) (t ∷ ts) _ _ (λ l. l ≡ t ∷ ts) refl
    (λ u its k same. behind_next (DeepBrackets depth) mark.CloseBracket its (t ∷ ts) _ _ (λ l. u ∷ l ≡ t ∷ ts) same
    (λ c rest is shown. (subst (λ (l : List Lexeme). AreBrackets Empty l rest) shown (empty k is), tt))
    (next (Inner depth (IsOf sort.Assignment)) (DeepBrackets depth) its (t ∷ ts) (nested (nesting depth) sort.Assignment its) _ (nested_found depth sort.Assignment its good)
    (λ e d. want_next (DeepBrackets depth) mark.CloseBracket e.1 (t ∷ ts) _ (λ l. IsAssignment e.0 its l) d.0
    (λ c rest is x. (subst (λ (l : List Lexeme). AreBrackets (Sized e.0) l rest) same (sized k x is), d.1)))))
    (no_brackets, tt)

-- ---- initializers

abbrev pub DeepInitializer : ℕ → Grammar InitializerTree
DeepInitializer depth i ts rest = IsInitializer i ts rest × InitializerNests i depth

abbrev InnerInitializer : ℕ → Grammar InitializerTree
InnerInitializer depth i ts rest = IsInitializer i ts rest × Within depth (λ d. InitializerNests i d)

-- each of several initializers nests within braces
abbrev AllWithin : List InitializerTree → ℕ → Type 0
AllWithin [] depth = Unit {0}
AllWithin (i ∷ all) depth = Within depth (λ d. InitializerNests i d) × AllWithin all depth

within_on : (all : List InitializerTree) (i : InitializerTree) (depth : ℕ) → AllWithin all depth → Within depth (λ d. InitializerNests i d) → AllWithin (all ++ i ∷ []) depth
within_on [] i depth h g = (g, tt)
within_on (x ∷ all) i depth h g = (h.0, within_on all i depth h.1 g)

within_all : (all : List InitializerTree) (depth : ℕ) → AllWithin all (suc depth) → InitializersNest (chain_of_initializers all) depth
within_all [] depth h = tt
within_all (i ∷ all) depth h = (h.0, within_all all depth h.1)

-- initializers, and a comma that may stand behind them before a brace
data ListInBraces : List InitializerTree → List Lexeme → List Lexeme → Type 0 where
  ended : {all : List InitializerTree} {ts rest : List Lexeme} → AreInitializers all ts rest → ListInBraces all ts rest
  with_comma : {all : List InitializerTree} {t : Lexeme} {ts rest : List Lexeme} → AreInitializers all ts (t ∷ rest) → IsPunctuator punctuator.Comma t → ListInBraces all ts rest

abbrev DeepList : ℕ → Grammar (List InitializerTree)
DeepList depth all ts rest = ListInBraces all ts rest × AllWithin all depth

module _ (depth : ℕ) (within : Option (Parser InitializerTree)) (good : (ts : List Lexeme) → Found (InnerInitializer depth) ts (nested_initializer within ts)) where
  more_found : (n : ℕ) (done : List InitializerTree) (ts whole : List Lexeme) → AreInitializers done whole ts → AllWithin done depth → Found (DeepList depth) whole (more_in_braces n within done ts)
  more_found zero done ts whole h d = (ended h, d)
  more_found (suc n) done ts whole h d =
      behind_next (DeepList depth) mark.Comma ts whole _ _ (λ l. AreInitializers done whole l) h
      (λ t after k x. by_test (Found (DeepList depth) whole) (is_at mark.CloseBrace after) _ _ (λ _. (with_comma x k, d))
      (λ _. next (InnerInitializer depth) (DeepList depth) after whole (nested_initializer within after) _ (good after)
      (λ i g. more_found n (done ++ i.0 ∷ []) i.1 whole (another x k g.0) (within_on done i.0 depth d g.1))))
      (ended h, d)

  in_found : (ts : List Lexeme) → Found (DeepList depth) ts (in_braces within ts)
  unfolding in_braces
  in_found ts =
      next (InnerInitializer depth) (DeepList depth) ts ts (nested_initializer within ts) _ (good ts) (λ i g. more_found (length i.1) (i.0 ∷ []) i.1 ts (only g.0) (g.1, tt))

closed : {opening closing : Lexeme} {all : List InitializerTree} {ts rest l : List Lexeme} → l ≡ closing ∷ rest → IsPunctuator punctuator.OpenBrace opening → ListInBraces all ts l → IsPunctuator punctuator.CloseBrace closing
    → IsInitializer (Braces (chain_of_initializers all)) (opening ∷ ts) rest
closed {opening} {closing} {all} {ts} {rest} same o (ended h) c = braces o (subst (λ (m : List Lexeme). AreInitializers all ts m) same h) c
closed {opening} {closing} {all} {ts} {rest} same o (with_comma {t = t} h k) c = braces_with_comma o (subst (λ (m : List Lexeme). AreInitializers all ts (t ∷ m)) same h) k c

-- initializers are some
none_of : (all : List InitializerTree) → all ≡ [] → (done : List InitializerTree) (i : InitializerTree) → all ≡ done ++ i ∷ [] → ⊥
none_of all e [] i f = let g : [] ≡ i ∷ [] = sym e ∙ f in absurd cc
none_of all e (x ∷ done) i f = let g : [] ≡ x ∷ (done ++ i ∷ []) = sym e ∙ f in absurd cc

no_initializers : {all : List InitializerTree} {ts rest : List Lexeme} → AreInitializers all ts rest → all ≡ [] → ⊥
no_initializers (only {i = i} h) e = none_of (i ∷ []) e [] i refl
no_initializers (another {all = done} {i = i} h k g) e = none_of (done ++ i ∷ []) e done i refl

some_level : (all : List InitializerTree) (depth : ℕ) (ts rest : List Lexeme) → ListInBraces all ts rest → AllWithin all depth → Within depth (λ d. InitializersNest (chain_of_initializers all) d)
some_level [] zero ts rest h d = there h refl
  where
    there : {l m : List Lexeme} {all : List InitializerTree} → ListInBraces all l m → all ≡ [] → ⊥
    there (ended g) e = no_initializers g e
    there (with_comma g k) e = no_initializers g e
some_level (i ∷ all) zero ts rest h d = elim d.0 [ ]
some_level [] (suc depth) ts rest h d = tt
some_level (i ∷ all) (suc depth) ts rest h d = within_all (i ∷ all) depth d

module _ (depth : ℕ) (within : Option (Parser InitializerTree)) (good : (ts : List Lexeme) → Found (InnerInitializer depth) ts (nested_initializer within ts)) where
  initializer_in_found : (ts : List Lexeme) → Found (DeepInitializer depth) ts (initializer_in (nesting depth) within ts)
  unfolding initializer_in tokens_behind
  initializer_in_found [] =
      next (Deep depth IsAssignment) (DeepInitializer depth) [] [] (assignment (nesting depth) []) _ (assignment_found depth (all_good depth) []) (λ e d. (value d.0, d.1))
  initializer_in_found (t ∷ ts) =
      behind_next (DeepInitializer depth) mark.OpenBrace (t ∷ ts) (t ∷ ts) _ _ (λ l. l ≡ t ∷ ts) refl
      (λ u its k same. next (DeepList depth) (DeepInitializer depth) its (t ∷ ts) (in_braces within its) _ (in_found depth within good its)
      (λ all d. want_next (DeepInitializer depth) mark.CloseBrace all.1 (t ∷ ts) _ (λ l. ListInBraces all.0 its l) d.0
      (λ c rest is x. (subst (λ (l : List Lexeme). IsInitializer (Braces (chain_of_initializers all.0)) l rest) same (closed refl k x is), some_level all.0 depth its (c ∷ rest) x d.1))))
      (next (Deep depth IsAssignment) (DeepInitializer depth) (t ∷ ts) (t ∷ ts) (assignment (nesting depth) (t ∷ ts)) _ (assignment_found depth (all_good depth) (t ∷ ts)) (λ e d. (value d.0, d.1)))

within_found : (depth : ℕ) (ts : List Lexeme) → Found (InnerInitializer depth) ts (nested_initializer (within_braces depth) ts)
unfolding within_braces nested_initializer
within_found zero ts = tt
within_found (suc depth) ts = initializer_in_found depth (within_braces depth) (within_found depth) ts

pub initializer_found : (depth : ℕ) (ts : List Lexeme) → Found (DeepInitializer depth) ts (initializer depth ts)
unfolding initializer
initializer_found depth ts = initializer_in_found depth (within_braces depth) (within_found depth) ts

-- ---- declarators

abbrev Initial : ℕ → BracketsTree → Grammar (Option InitializerTree)
Initial depth b i ts rest = IsInitialized b i ts rest × InitialNests i depth

not_empty : (b : BracketsTree) → are_empty b ≡ false → b ≡ Empty → ⊥
not_empty b h e = let g : are_empty b ≡ true = ap are_empty e in absurd cc

initialized_found : (depth : ℕ) (b : BracketsTree) (ts : List Lexeme) → Found (Initial depth b) ts (initialized depth b ts)
unfolding initialized tokens_behind
initialized_found depth b [] = by_test (Found (Initial depth b) []) (are_empty b) _ _ (λ _. tt) (λ e. (no_initializer (not_empty b e), tt))
initialized_found depth b (t ∷ ts) =
    behind_next (Initial depth b) mark.Equal (t ∷ ts) (t ∷ ts) _ _ (λ l. l ≡ t ∷ ts) refl
    (λ u rest k same. next (DeepInitializer depth) (Initial depth b) rest (t ∷ ts) (initializer depth rest) _ (initializer_found depth rest)
    (λ i d. (subst (λ (l : List Lexeme). IsInitialized b (Some i.0) l i.1) same (grammar.initialized k d.0), d.1)))
    (by_test (Found (Initial depth b) (t ∷ ts)) (are_empty b) _ _ (λ _. tt) (λ e. (no_initializer (not_empty b e), tt)))

-- what stands behind the name of a declarator
abbrev pub Named : ℕ → (start : List Lexeme) → (stars : ℕ) → NameTree → Grammar DeclaratorTree
Named depth begin count name d ts rest = IsNamed begin d ts rest × DeclaratorNests d depth × (d.stars ≡ count) × (d.name ≡ name)

pub named_found : (depth : ℕ) (begin : List Lexeme) (count : ℕ) (name : NameTree) (ts : List Lexeme) → Found (Named depth begin count name) ts (named_declarator depth begin count name ts)
unfolding named_declarator
named_found depth begin count name ts =
    next (DeepBrackets depth) (Named depth begin count name) ts ts (brackets (nesting depth) ts) _ (brackets_found depth ts (all_good depth))
    (λ b d. next (Initial depth b.0) (Named depth begin count name) b.1 ts (initialized depth b.0 b.1) _ (initialized_found depth b.0 b.1)
    (λ i g. (record { behind_brackets = b.1; brackets = d.0; initial = g.0; extent = refl }, (d.1, g.1), refl, refl)))

abbrev pub DeepDeclarator : ℕ → Grammar DeclaratorTree
DeepDeclarator depth d ts rest = IsDeclarator d ts rest × DeclaratorNests d depth

-- a declarator, with its stars and its name
pub whole_declarator : (depth : ℕ) {count : ℕ} {name : NameTree} {d : DeclaratorTree} {ts mid behind_name rest : List Lexeme} → AreStars count ts mid → NameAtFront name mid behind_name → Named depth ts count name d behind_name rest
    → DeepDeclarator depth d ts rest
whole_declarator depth {d = d} {ts = ts} s (name_at_front {t = t} {rest = rest} k) n =
    (grammar.declarator (subst (λ (c : ℕ). AreStars c ts (t ∷ rest)) (sym n.2) s) (subst (λ (m : NameTree). IsName m t) (sym n.3) k) n.0, n.1)

pub declarator_found : (depth : ℕ) (ts : List Lexeme) → Found (DeepDeclarator depth) ts (declarator depth ts)
unfolding declarator
declarator_found depth ts =
    next NameAtFront (DeepDeclarator depth) (stars ts).1 ts (identifier (stars ts).1) _ (identifier_found (stars ts).1)
    (λ name k. seen (Named depth ts (stars ts).0 name.0) (DeepDeclarator depth) name.1 ts (named_declarator depth ts (stars ts).0 name.0 name.1) (λ d rest n. whole_declarator depth (stars_found ts) k n) (named_found depth ts (stars ts).0 name.0 name.1))

-- ---- declarations

-- declarators with commas between them
abbrev pub DeepDeclarators : ℕ → Grammar (List DeclaratorTree)
DeepDeclarators depth all ts rest = Separated IsDeclarator all ts rest × DeclaratorsNest all depth

declarators_on : (all : List DeclaratorTree) (d : DeclaratorTree) (depth : ℕ) → DeclaratorsNest all depth → DeclaratorNests d depth → DeclaratorsNest (all ++ d ∷ []) depth
declarators_on [] d depth h g = (g, tt)
declarators_on (x ∷ all) d depth h g = (h.0, declarators_on all d depth h.1 g)

-- the declarators of a declaration, and its `;`
pub data Begun (start : List Lexeme) (type : IntegerType) : DeclarationTree → List Lexeme → List Lexeme → Type 0 where
  begun : {end : Lexeme} {all : List DeclaratorTree} {ts rest : List Lexeme} → Separated IsDeclarator all ts (end ∷ rest) → IsPunctuator punctuator.Semicolon end
      → Begun start type (record { extent = record { first = spot_at start; last = end.spot.at }; type = type; declarators = all }) ts rest

abbrev pub DeepBegun : ℕ → List Lexeme → IntegerType → Grammar DeclarationTree
DeepBegun depth begin type d ts rest = Begun begin type d ts rest × DeclarationNests d depth

pub begun_found : (depth : ℕ) (begin : List Lexeme) (type : IntegerType) (d : DeclaratorTree) (ts whole : List Lexeme) → Passes begin whole → DeepDeclarator depth d whole ts
    → Found (DeepBegun depth begin type) whole (begun_declaration depth begin type d ts)
unfolding begun_declaration extent_before
begun_found depth begin type d ts whole p h =
    next (DeepDeclarators depth) (DeepBegun depth begin type) whole whole _ _
    (separated_found (DeepDeclarator depth) (DeepDeclarators depth) (length ts) (declarator depth) (λ us. declarator_found depth us)
    (λ done a w t mid rest x k g. (further x.0 k g.0, declarators_on done a depth x.1 g.1))
    (d ∷ []) ts whole (first h.0, (h.1, tt)))
    (λ all g. want_next (DeepBegun depth begin type) mark.Semicolon all.1 whole _ (λ l. Separated IsDeclarator all.0 whole l) g.0
    (λ end rest is x. let before : last_before begin rest ≡ end.spot.at = last_known (join p (separated_pass (λ e us more g. declarator_passes g) x)) in
    (rw before (begun x is), g.1)))

abbrev pub DeepDeclaration : ℕ → Grammar DeclarationTree
DeepDeclaration depth d ts rest = IsDeclaration d ts rest × DeclarationNests d depth

whole_declaration : (depth : ℕ) {found : SpecifierList} {d : DeclarationTree} {ts mid rest : List Lexeme} → Specify place.Object found ts mid → DeepBegun depth ts (integer_type found) d mid rest → DeepDeclaration depth d ts rest
whole_declaration depth {found} {d} {ts} {mid} {rest} s h = (by h.0, h.1)
  where
    by : {e : DeclarationTree} → Begun ts (integer_type found) e mid rest → IsDeclaration e ts rest
    by (begun x k) = grammar.declaration s x k

pub declaration_found : (depth : ℕ) (ts : List Lexeme) → Found (DeepDeclaration depth) ts (declaration depth ts)
unfolding declaration
declaration_found depth ts =
    next (Specify place.Object) (DeepDeclaration depth) ts ts (specifiers place.Object ts) _ (specifiers_found place.Object ts)
    (λ found s. next (DeepDeclarator depth) (DeepDeclaration depth) found.1 ts (declarator depth found.1) _ (declarator_found depth found.1)
    (λ d h. seen (DeepBegun depth ts (integer_type found.0)) (DeepDeclaration depth) found.1 ts (begun_declaration depth ts (integer_type found.0) d.0 d.1) (λ x rest g. whole_declaration depth {found = found.0} s g)
    (begun_found depth ts (integer_type found.0) d.0 d.1 found.1 (specifiers_pass s.words) h)))
