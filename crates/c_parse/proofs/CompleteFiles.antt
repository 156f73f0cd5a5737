-- A file that tokens spell is read from them, where it nests no deeper than it may; so tokens have at most one tree.
use Rattle.std.proofs.Common.{◌≡◌, ◌⊎◌, inl, inr, ℕ, zero, suc, ◌-◌, ◌<◌, ◌≤◌, Bool, true, false, cond, List, [], ◌∷◌, ◌++◌, length, Option, Some, None, Ok, refl, sym, ap, ◌∙◌, subst, append-nil, append_assoc, arith}
use Rattle.std.specs.Prelude.{is_some}
use Rattle.c_token.specs.declared.token.Keyword.{Keyword}
use Rattle.c_token.specs.declared.token.Keyword.TheVariants as keyword
use Rattle.c_token.specs.declared.token.Punctuator.{Punctuator}
use Rattle.c_token.specs.declared.token.Punctuator.TheVariants as punctuator
use Rattle.c_token.specs.declared.token.Header as token_header
use Rattle.c_token.specs.Lexemes.{Lexeme, Word}
use Rattle.c_token.specs.Lexemes as word
use Rattle.c_tree.specs.declared.extent.Extent.{Extent}
use Rattle.c_tree.specs.declared.types.IntegerType.{IntegerType}
use Rattle.c_tree.specs.declared.declaration.Header.{Header}
use Rattle.c_tree.specs.Expressions.{NameTree}
use Rattle.c_tree.specs.Declarations.{BracketsTree, DeclaratorTree, ParameterTree}
use Rattle.c_tree.specs.Statements.{StatementTree, BlockTree, chain_of_statements}
use Rattle.c_tree.specs.Trees.{FunctionTree, ItemTree, Include, Declares, Defines}
use Rattle.c_parse_tokens.specs.declared.mark.Mark.{Mark}
use Rattle.c_parse_tokens.specs.declared.mark.Mark.TheVariants as mark
use Rattle.c_parse_tokens.specs.declared.specifier.Place.TheVariants as place
use Rattle.c_parse_tokens.specs.declared.specifier.SpecifierList.{SpecifierList}
use Rattle.c_parse_tokens.specs.Front.{is, is_at, spot_at, last_before, extent_before}
use Rattle.c_parse_tokens.specs.Specifiers.{no_specifiers, with_specifier, keyword_of_word, integer_type, base_of, is_type_word, begins_type, is_star}
use Rattle.c_parse_statements.specs.Declarations.{declarator, begun_declaration}
use Rattle.c_parse.specs.Reading.{is_name_word, begins_with_name, parameter_name, parameter, parameters, are_named, body, function, result_stars, objects, external, header, item_of, item, items_from, items, tree_of}
use Rattle.c_parse.specs.Tokens.{IsPunctuator, IsName}
use Rattle.c_parse.specs.Types.{Specify}
use Rattle.c_parse.specs.Declarations.{AreBrackets, no_brackets, empty, sized, IsInitialized, no_initializer, initialized, IsNamed, IsDeclarator, Separated}
use Rattle.c_parse.specs.Declarations as declaring
use Rattle.c_parse.specs.Files.{IsOptionalName, nameless, its_name, IsParameter, AreParameters, no_parameter, void, HaveNames, no_more, has_name, IsBody, no_body, AreResultStars, of_void, of_integer, IsHeader, stdio, stdlib, IsItem, IsFile, nothing_more, Spells}
use Rattle.c_parse.specs.Files as grammar
use Rattle.c_parse.proofs.Nesting.{SizeNests, DeclaratorNests, ParametersNest, BodyNests, ItemNests, ItemsNest}
use Rattle.c_parse.proofs.Words.{no, star_there}
use Rattle.c_parse.proofs.Passing.{join, step, last_known}
use Rattle.c_parse.proofs.ExpressionsPass.{specifiers_pass}
use Rattle.c_parse.proofs.DeclarationsPass.{declarator_passes, separated_pass}
use Rattle.c_parse.proofs.FilesPass.{parameter_passes, parameters_pass, result_stars_pass, item_shorter}
use Rattle.c_parse.proofs.Binding.{rank, binding, binding_at, loose, no_mark, followed, there_is, there_is_none, at_mark, behind_mark, wanted, separated_end}
use Rattle.c_parse.proofs.Fronts.{keyword_at, specifiers_read, FirstKeyword, starts, no_words, begins_with_object, star_at, stars_read, stars_no_keyword}
use Rattle.c_parse.proofs.CompleteExpressions.{read}
use Rattle.c_parse.proofs.CompleteDeclarations.{not_at, Ends, ends_loose, name_read, name_no_keyword, name_no_star, brackets_read, named_read, Each, separated_go, DeclaratorsGo, declarators_go, begun_read}
use Rattle.c_parse.proofs.CompleteStatements.{unchained, block_read, statements_read}

-- ---- parameters

-- the first token is no keyword, no `*` and no name
abbrev IsPlain : List Lexeme → Type 0
IsPlain ts = (keyword_at ts ≡ None) × (star_at ts ≡ false) × (begins_with_name ts ≡ false)

plain_word : (t : Lexeme) (p : Punctuator) → IsPunctuator p t → is_star (word.Punctuator p) ≡ false → (ts : List Lexeme) → IsPlain (t ∷ ts)
plain_word t p k s ts = (ap keyword_of_word k, ap is_star k ∙ s, ap is_name_word k)

ends_plain : (ts : List Lexeme) → Ends ts → IsPlain ts
ends_plain [] h = elim h [ ]
ends_plain (t ∷ ts) h = plain_word t h.0 h.1 (no_star_there h.0 h.2) ts
  where
    no_star_there : (p : Punctuator) → 13 < rank p → is_star (word.Punctuator p) ≡ false
    no_star_there p g = by (is_star (word.Punctuator p)) refl
      where
        by : (b : Bool) → is_star (word.Punctuator p) ≡ b → b ≡ false
        by false e = refl
        by true e = let same : rank p ≡ 2 = ap binding (star_there (word.Punctuator p) e) in absurd (omega (arith, same, g))

brackets_plain : {b : BracketsTree} {ts rest : List Lexeme} → AreBrackets b ts rest → Ends rest → IsPlain ts
brackets_plain (no_brackets {rest = rest}) h = ends_plain rest h
brackets_plain (empty {opening = o} {closing = c} {rest = rest} k e) h = plain_word o punctuator.OpenBracket k refl (c ∷ rest)
brackets_plain (sized {opening = o} {ts = ts} k x e) h = plain_word o punctuator.OpenBracket k refl ts

-- what stands at a name, or where one could
name_apart : {n : Option NameTree} {ts rest : List Lexeme} → IsOptionalName n ts rest → IsPlain rest → (keyword_at ts ≡ None) × (star_at ts ≡ false)
name_apart nameless h = (h.0, h.1)
name_apart (its_name {t = t} {n = n} {rest = rest} k) h = (name_no_keyword n t rest k, name_no_star n t rest k)

optional_name_read : {n : Option NameTree} {ts rest : List Lexeme} → IsOptionalName n ts rest → IsPlain rest → parameter_name ts ≡ Ok (n, rest)
unfolding parameter_name
optional_name_read nameless h = let e = h.2 in rw e refl
optional_name_read (its_name {t = t} {n = n} {rest = rest} k) h = let e : begins_with_name (t ∷ rest) ≡ true = ap is_name_word k.0 in rw e (followed _ (name_read n t rest k) refl)

pub parameter_read : {p : ParameterTree} {ts rest : List Lexeme} → IsParameter p ts rest → (depth : ℕ) → SizeNests p.brackets depth → Ends rest → parameter depth ts ≡ Ok (p, rest)
unfolding parameter
parameter_read (grammar.parameter {found = found} {p = p} {ts = ts} {mid = mid} {at_name = at_name} {behind_name = behind_name} {rest = rest} s c n b e x) depth d h =
    let clear = brackets_plain b h in
    let apart = name_apart n clear in
    let loose_there : 13 < binding_at rest = ends_loose rest h in
    let m = stars_read c apart.1 in
    followed _ (specifiers_read s (stars_no_keyword c apart.0)) (rw m
    (followed _ (optional_name_read n clear) (followed _ (brackets_read b depth d (omega (arith, loose_there)))
    (subst (λ (t : IntegerType). read (record { extent = record { first = spot_at mid; last = last_before ts rest }; type = t; stars = p.stars; name = p.name; brackets = p.brackets }) rest ≡ read p rest) e
    (subst (λ (y : Extent). read (record { extent = y; type = p.type; stars = p.stars; name = p.name; brackets = p.brackets }) rest ≡ read p rest) x refl)))))

typed_mark_word : (m : Mark) (w : Word) → is_type_word w ≡ true → (m ≡ mark.CloseParenthesis) ⊎ (m ≡ mark.Void) → is m w ≡ false
typed_mark_word m (word.Keyword keyword.Char) h (inl e) = ap (λ (n : Mark). is n (word.Keyword keyword.Char)) e
typed_mark_word m (word.Keyword keyword.Char) h (inr e) = ap (λ (n : Mark). is n (word.Keyword keyword.Char)) e
typed_mark_word m (word.Keyword keyword.Short) h (inl e) = ap (λ (n : Mark). is n (word.Keyword keyword.Short)) e
typed_mark_word m (word.Keyword keyword.Short) h (inr e) = ap (λ (n : Mark). is n (word.Keyword keyword.Short)) e
typed_mark_word m (word.Keyword keyword.Int) h (inl e) = ap (λ (n : Mark). is n (word.Keyword keyword.Int)) e
typed_mark_word m (word.Keyword keyword.Int) h (inr e) = ap (λ (n : Mark). is n (word.Keyword keyword.Int)) e
typed_mark_word m (word.Keyword keyword.Long) h (inl e) = ap (λ (n : Mark). is n (word.Keyword keyword.Long)) e
typed_mark_word m (word.Keyword keyword.Long) h (inr e) = ap (λ (n : Mark). is n (word.Keyword keyword.Long)) e
typed_mark_word m (word.Keyword keyword.Signed) h (inl e) = ap (λ (n : Mark). is n (word.Keyword keyword.Signed)) e
typed_mark_word m (word.Keyword keyword.Signed) h (inr e) = ap (λ (n : Mark). is n (word.Keyword keyword.Signed)) e
typed_mark_word m (word.Keyword keyword.Unsigned) h (inl e) = ap (λ (n : Mark). is n (word.Keyword keyword.Unsigned)) e
typed_mark_word m (word.Keyword keyword.Unsigned) h (inr e) = ap (λ (n : Mark). is n (word.Keyword keyword.Unsigned)) e
typed_mark_word m w h e = no h

typed_mark : (m : Mark) (ts : List Lexeme) → begins_type ts ≡ true → (m ≡ mark.CloseParenthesis) ⊎ (m ≡ mark.Void) → is_at m ts ≡ false
unfolding begins_type is_at
typed_mark m [] h e = refl
typed_mark m (t ∷ ts) h e = typed_mark_word m t.kind h e

parameter_typed : {p : ParameterTree} {ts rest : List Lexeme} → IsParameter p ts rest → begins_type ts ≡ true
parameter_typed (grammar.parameter s c n b e x) = begins_with_object s

parameters_typed : {all : List ParameterTree} {ts rest : List Lexeme} → Separated IsParameter all ts rest → begins_type ts ≡ true
parameters_typed (declaring.first p) = parameter_typed p
parameters_typed (declaring.further all k p) = parameters_typed all

each_parameter : (all : List ParameterTree) (depth : ℕ) → ParametersNest all depth → Each (λ p. SizeNests p.brackets depth) all
each_parameter [] depth h = tt
each_parameter (p ∷ all) depth h = (h.0, each_parameter all depth h.1)

some_read : (depth : ℕ) (all : List ParameterTree) (ts rest : List Lexeme) → Separated IsParameter all ts rest → ParametersNest all depth → Ends rest → 14 < binding_at rest → parameters depth ts ≡ Ok (all, rest)
unfolding parameters
some_read depth all ts rest x d h b =
    let typed = parameters_typed x in
    let e = typed_mark mark.CloseParenthesis ts typed (inl refl) in
    let g = separated_go IsParameter (λ p. SizeNests p.brackets depth) (parameter depth) (λ a us more y n i. parameter_read y depth n i) (λ a us more y. parameter_passes y) x (each_parameter all depth d) h in
    rw e (there_is_none _ (no_mark mark.Void ts (typed_mark mark.Void ts typed (inr refl)))
    (followed _ (parameter_read g.is depth g.nests g.ends) (g.goes ∙ separated_end g.m (parameter depth) all rest b)))

pub parameters_read : {all : List ParameterTree} {ts rest : List Lexeme} → AreParameters all ts rest → (depth : ℕ) → ParametersNest all depth → Ends rest → 14 < binding_at rest → is_at mark.CloseParenthesis rest ≡ true
    → parameters depth ts ≡ Ok (all, rest)
unfolding parameters is_at
parameters_read (no_parameter {rest = rest}) depth d h b c = rw c refl
parameters_read (void {t = t} {rest = rest} k) depth d h b c =
    let e : is mark.CloseParenthesis t.kind ≡ false = ap (is mark.CloseParenthesis) k in rw e (there_is _ _ (behind_mark mark.Void t rest k) refl)
parameters_read (grammar.parameters {all = all} {ts = ts} {rest = rest} x) depth d h b c = some_read depth all ts rest x d h b

-- ---- bodies

named : {ps : List ParameterTree} → HaveNames ps → are_named ps ≡ true
named no_more = refl
named (has_name {p = p} n e h) = let s : is_some p.name ≡ true = ap is_some e in rw s (named h)

pub body_read : {ps : List ParameterTree} {b : Option BlockTree} {ts rest : List Lexeme} → IsBody ps b ts rest → (depth : ℕ) → BodyNests b depth → body depth ps ts ≡ Ok (b, rest)
unfolding body is_at
body_read (no_body {t = t} {rest = rest} k) depth d = there_is _ _ (behind_mark mark.Semicolon t rest k) refl
body_read (grammar.body {opening = o} {closing = c} {ps = ps} {all = all} {ts = ts} {rest = rest} h k x e) depth d =
    let n = named h in
    there_is_none _ (no_mark mark.Semicolon (o ∷ ts) (ap (is mark.Semicolon) k))
    (rw n (followed _ (block_read depth true (chain_of_statements all) o c ts rest k (statements_read x) d e)
    (ap (λ (l : List StatementTree). read (Some (record { opening = o.spot; statements = l; closing = c.spot })) rest) (unchained all))))

-- ---- items

result_stars_read : {found : SpecifierList} {count : ℕ} {ts rest : List Lexeme} → AreResultStars found count ts rest → star_at rest ≡ false → result_stars found ts ≡ (count, rest)
unfolding result_stars
result_stars_read (of_void e) h = rw e refl
result_stars_read (of_integer e s) h = rw e (stars_read s h)

result_no_keyword : {found : SpecifierList} {count : ℕ} {ts rest : List Lexeme} → AreResultStars found count ts rest → keyword_at rest ≡ None → keyword_at ts ≡ None
result_no_keyword (of_void e) h = h
result_no_keyword (of_integer e s) h = stars_no_keyword s h

function_read : (depth : ℕ) (found : SpecifierList) (declarator its mid rest : List Lexeme) (c : Lexeme) (count : ℕ) (name : NameTree) (ps : List ParameterTree) (b : Option BlockTree) → AreParameters ps its (c ∷ mid)
    → IsPunctuator punctuator.CloseParenthesis c → IsBody ps b mid rest → ParametersNest ps depth → BodyNests b (suc depth) → last_before declarator mid ≡ c.spot.at
    → function (suc depth) found declarator count name its ≡ Ok (record { extent = record { first = spot_at declarator; last = c.spot.at }; base = base_of found; stars = count; name = name; parameters = ps; body = b }, rest)
unfolding function extent_before is_at
function_read depth found declarator its mid rest c count name ps b x k y d e before =
    let one_less : suc depth - 1 ≡ depth = omega arith in
    let first : parameters (suc depth - 1) its ≡ Ok (ps, c ∷ mid) =
    subst (λ (n : ℕ). parameters n its ≡ Ok (ps, c ∷ mid)) (sym one_less) (parameters_read x depth d (punctuator.CloseParenthesis, k, omega arith) (loose c mid 14 k (omega arith)) (at_mark mark.CloseParenthesis c k)) in
    followed _ first (followed _ (wanted mark.CloseParenthesis c mid k) (followed _ (body_read y (suc depth) e)
    (ap (λ (n : ℕ). read (record { extent = record { first = spot_at declarator; last = n }; base = base_of found; stars = count; name = name; parameters = ps; body = b }) rest) before)))

external_function : (depth : ℕ) (found : SpecifierList) (f : FunctionTree) (ts declarator its rest : List Lexeme) (t o : Lexeme) (count : ℕ) (name : NameTree) → Specify place.File found ts declarator → AreResultStars found count declarator (t ∷ o ∷ its)
    → IsName name t → IsPunctuator punctuator.OpenParenthesis o → function (suc depth) found declarator count name its ≡ Ok (f, rest) → external (suc depth) ts ≡ Ok (Defines f, rest)
unfolding external
external_function depth found f ts declarator its rest t o count name s c k i r =
    let e = result_stars_read c (name_no_star name t (o ∷ its) k) in
    followed _ (specifiers_read s (result_no_keyword c (name_no_keyword name t (o ∷ its) k)))
    (rw e (followed _ (name_read name t (o ∷ its) k) (there_is _ _ (behind_mark mark.OpenParenthesis o its i) (followed _ r refl))))

named_no_parenthesis : {begin : List Lexeme} {d : DeclaratorTree} {ts rest : List Lexeme} → IsNamed begin d ts rest → 13 < binding_at rest → is_at mark.OpenParenthesis ts ≡ false
unfolding is_at
named_no_parenthesis {begin} {d} {ts} {rest} n h = by n.brackets (initial n.initial)
  where
    initial : {b : BracketsTree} {i : _} {us : List Lexeme} → IsInitialized b i us rest → is_at mark.OpenParenthesis us ≡ false
    initial (no_initializer e) = not_at mark.OpenParenthesis rest (omega (arith, h))
    initial (initialized k i) = ap (is mark.OpenParenthesis) k

    by : {b : BracketsTree} {l m : List Lexeme} → AreBrackets b l m → is_at mark.OpenParenthesis m ≡ false → is_at mark.OpenParenthesis l ≡ false
    by no_brackets g = g
    by (empty k e) g = ap (is mark.OpenParenthesis) k
    by (sized k x e) g = ap (is mark.OpenParenthesis) k

-- the second of two, where the test fails
otherwise : {A : Type 0} {b : Bool} (x : A) {y z : A} → b ≡ false → y ≡ z → cond b x y ≡ z
otherwise {A} {b} x {y} {z} e g = subst (λ (c : Bool). cond c x y ≡ z) (sym e) g

objects_read : (depth : ℕ) (found : SpecifierList) (all : List DeclaratorTree) (end : Lexeme) (ts mid rest : List Lexeme) → Specify place.File found ts mid → found.is_void ≡ false → (g : DeclaratorsGo depth all mid (end ∷ rest))
    → IsPunctuator punctuator.Semicolon end → last_before ts rest ≡ end.spot.at
    → external depth ts ≡ Ok (Declares (record { extent = record { first = spot_at ts; last = end.spot.at }; type = integer_type found; declarators = all }), rest)
unfolding external objects
objects_read depth found all end ts mid rest s v g k before = by g.is g.nests (begun_read depth ts (integer_type found) all end mid rest g k before) (ends_loose g.mid g.ends)
  where
    by : {d : DeclaratorTree} {us : List Lexeme} → IsDeclarator d mid us → DeclaratorNests d depth
        → begun_declaration depth ts (integer_type found) d us ≡ Ok (record { extent = record { first = spot_at ts; last = end.spot.at }; type = integer_type found; declarators = all }, rest)
        → 13 < binding_at us → external depth ts ≡ Ok (Declares (record { extent = record { first = spot_at ts; last = end.spot.at }; type = integer_type found; declarators = all }), rest)
    by (declaring.declarator {t = t} {d = d} {mid = more} c n m) nests r b =
        let e = result_stars_read {found = found} (of_integer v c) (name_no_star d.name t more n) in
        followed _ (specifiers_read s (stars_no_keyword c (name_no_keyword d.name t more n)))
        (rw e (followed _ (name_read d.name t more n) (there_is_none _ (no_mark mark.OpenParenthesis more (named_no_parenthesis m b))
        (otherwise _ v (followed _ (named_read m depth nests b) (followed _ r refl))))))

-- an item that begins with a keyword
keyword_item : (depth : ℕ) (ts : List Lexeme) (P : Keyword → Type 0) → FirstKeyword ts P → item depth ts ≡ external depth ts
unfolding item
keyword_item depth [] P h = elim h [ ]
keyword_item depth (t ∷ ts) P h = subst (λ (w : Word). item_of depth w t ts ≡ external depth (t ∷ ts)) (sym h.1) refl

specified_item : (depth : ℕ) {found : SpecifierList} {ts rest : List Lexeme} → Specify place.File found ts rest → item depth ts ≡ external depth ts
specified_item depth {found} {ts} s = by (starts s.words)
  where
    by : (no_specifiers ≡ found) ⊎ FirstKeyword ts (λ k. (x : SpecifierList) × (with_specifier place.File k no_specifiers ≡ Some x)) → item depth ts ≡ external depth ts
    by (inl e) = no_words e s.type
    by (inr h) = keyword_item depth ts _ h

is_header : {h : token_header.Header} {g : Header} → IsHeader h g → header h ≡ g
is_header stdio = refl
is_header stdlib = refl

include_read : (depth : ℕ) (t : Lexeme) (h : _) (rest : List Lexeme) → t.kind ≡ word.Include h → item depth (t ∷ rest) ≡ Ok (Include t.spot (header h), rest)
unfolding item
include_read depth t h rest k = subst (λ (w : Word). item_of depth w t rest ≡ Ok (Include t.spot (header h), rest)) (sym k) refl

pub item_read : {i : ItemTree} {ts rest : List Lexeme} → IsItem i ts rest → (depth : ℕ) → ItemNests i (suc depth) → item (suc depth) ts ≡ Ok (i, rest)
item_read (grammar.include {t = t} {h = h} {its = g} {rest = rest} k i) depth d = include_read (suc depth) t h rest k ∙ ap (λ (x : Header). read (Include t.spot x) rest) (is_header i)
item_read (grammar.function {t = t} {opening = o} {closing = c} {found = found} {name = name} {count = count} {ps = ps} {b = b} {ts = ts} {declarator = declarator} {its = its} {mid = mid} {rest = rest} s x k i y e z) depth d =
    let before = last_known (join (step (step (result_stars_pass x))) (parameters_pass y)) in
    specified_item (suc depth) s ∙ external_function depth found _ ts declarator its rest t o count name s x k i (function_read depth found declarator its mid rest c count name ps b y e z d.0 d.1 before)
item_read (grammar.objects {end = end} {found = found} {all = all} {ts = ts} {mid = mid} {rest = rest} s v x k) depth d =
    specified_item (suc depth) s
    ∙ objects_read (suc depth) found all end ts mid rest s v (declarators_go (suc depth) x d (punctuator.Semicolon, k, omega arith)) k (last_known (join (specifiers_pass s.words) (separated_pass (λ a us more y. declarator_passes y) x)))

-- ---- files

items_step : (n depth : ℕ) (i : ItemTree) (done : List ItemTree) (ts rest : List Lexeme) → item depth ts ≡ Ok (i, rest) → items_from (suc n) depth done ts ≡ items_from n depth (done ++ i ∷ []) rest
unfolding item
items_step n depth i done [] rest e = absurd cc
items_step n depth i done (t ∷ ts) rest e = followed _ e refl

pub all_read : {all : List ItemTree} {ts : List Lexeme} → IsFile all ts → (depth : ℕ) → ItemsNest all (suc depth) → (n : ℕ) → length ts ≤ n → (done : List ItemTree) → items_from n (suc depth) done ts ≡ Ok (done ++ all)
all_read nothing_more depth d zero le done = ap (λ (l : List ItemTree). Ok l) (sym (append-nil done))
all_read nothing_more depth d (suc n) le done = ap (λ (l : List ItemTree). Ok l) (sym (append-nil done))
all_read (grammar.item x y) depth d zero le done = absurd (omega (arith, le, item_shorter x))
all_read (grammar.item {i = i} {all = all} {ts = ts} {rest = rest} x y) depth d (suc n) le done =
    items_step n (suc depth) i done ts rest (item_read x depth d.0)
    ∙ all_read y depth d.1 n (omega (arith, le, item_shorter x)) (done ++ i ∷ [])
    ∙ ap (λ (l : List ItemTree). Ok l) (append_assoc done (i ∷ []) all)

-- A tree that tokens spell and that nests 64 deep at most is the one that is read from them.
pub tree_read : (ts : List Lexeme) (all : List ItemTree) → Spells ts all → ItemsNest all 64 → tree_of ts ≡ Ok all
unfolding tree_of items
tree_read ts all s d = let e : items_from (length ts) 64 [] ts ≡ Ok all = all_read s 63 d (length ts) (omega arith) [] in rw e refl
