-- What is read as a file is spelled by its tokens, and nests no deeper than it may.
use Rattle.std.proofs.Common.{◌≡◌, ℕ, zero, suc, ◌-◌, ◌≤◌, Bool, true, false, cond, List, [], ◌∷◌, ◌++◌, length, Option, Some, None, Result, Ok, Err, refl, sym, ◌∙◌, subst, append-nil, append_assoc, arith}
use Rattle.std.specs.Prelude.{is_some, if◌then◌else◌}
use Rattle.c_token.specs.declared.token.Punctuator.TheVariants as punctuator
use Rattle.c_token.specs.declared.token.Header as token_header
use Rattle.c_token.specs.declared.token.Header.TheVariants as token_headers
use Rattle.c_token.specs.Lexemes.{Lexeme, Word}
use Rattle.c_token.specs.Lexemes as word
use Rattle.c_tree.specs.Expressions.{NameTree}
use Rattle.c_tree.specs.Declarations.{DeclarationTree, ParameterTree}
use Rattle.c_tree.specs.Statements.{BlockTree}
use Rattle.c_tree.specs.Trees.{FunctionTree, ItemTree, Declares, Defines}
use Rattle.c_parse_tokens.specs.declared.fault.Stuck.{Stuck}
use Rattle.c_parse_tokens.specs.declared.mark.Mark.TheVariants as mark
use Rattle.c_parse_tokens.specs.declared.specifier.Place.TheVariants as place
use Rattle.c_parse_tokens.specs.declared.specifier.SpecifierList.{SpecifierList}
use Rattle.c_parse_tokens.specs.Outcome.{◌>>=◌}
use Rattle.c_parse_tokens.specs.Front.{stuck, is_at, spot_at, last_before, extent_before}
use Rattle.c_parse_tokens.specs.Specifiers.{specifiers, integer_type, base_of, stars}
use Rattle.c_parse_expressions.specs.Expressions.{nesting}
use Rattle.c_parse_statements.specs.Declarations.{identifier, brackets, named_declarator, begun_declaration}
use Rattle.c_parse_statements.specs.Statements as reading
use Rattle.c_parse_statements.specs.Statements.{block}
use Rattle.c_parse.specs.Reading.{begins_with_name, parameter_name, parameter, parameters, are_named, body, function, result_stars, objects, external, header, item_of, item, items_from, items, answer, tree_of}
use Rattle.c_parse.specs.Tokens.{Grammar, IsPunctuator}
use Rattle.c_parse.specs.Types.{Specify, AreStars}
use Rattle.c_parse.specs.Declarations.{Separated, first, further}
use Rattle.c_parse.specs.Files.{IsOptionalName, nameless, its_name, IsParameter, AreParameters, no_parameter, void, HaveNames, no_more, has_name, IsBody, no_body, AreResultStars, of_void, of_integer, IsHeader, stdio, stdlib, IsItem, IsFile, nothing_more, Spells}
use Rattle.c_parse.specs.Files as grammar
use Rattle.c_parse.proofs.Nesting.{SizeNests, ParametersNest, BodyNests, ItemNests, ItemsNest}
use Rattle.c_parse.proofs.Words.{no}
use Rattle.c_parse.proofs.Passing.{Passes, here, behind as passed, join, last_known}
use Rattle.c_parse.proofs.ExpressionsPass.{specifiers_pass}
use Rattle.c_parse.proofs.FilesPass.{parameters_pass, result_stars_pass, item_shorter}
use Rattle.c_parse.proofs.Reading.{Found, by_test, next, seen, want_next, behind_next, behind_first, separated_found, specifiers_found, stars_found}
use Rattle.c_parse.proofs.SoundExpressions.{all_good}
use Rattle.c_parse.proofs.SoundDeclarations.{NameAtFront, name_at_front, identifier_found, DeepBrackets, brackets_found, Named, named_found, whole_declarator, Begun, begun, DeepBegun, begun_found}
use Rattle.c_parse.proofs.SoundStatements.{IsBlock, a_block, Block, block_found, all_good_statements}

-- ---- parameters

name_there : {n : NameTree} {ts rest : List Lexeme} → NameAtFront n ts rest → IsOptionalName (Some n) ts rest
name_there (name_at_front k) = its_name k

name_found : (ts : List Lexeme) → Found IsOptionalName ts (parameter_name ts)
unfolding parameter_name
name_found ts =
    by_test (Found IsOptionalName ts) (begins_with_name ts) _ _
    (λ _. next NameAtFront IsOptionalName ts ts (identifier ts) _ (identifier_found ts) (λ n h. name_there h))
    (λ _. nameless)

abbrev DeepParameter : ℕ → Grammar ParameterTree
DeepParameter depth p ts rest = IsParameter p ts rest × SizeNests p.brackets depth

parameter_found : (depth : ℕ) (ts : List Lexeme) → Found (DeepParameter depth) ts (parameter depth ts)
unfolding parameter
parameter_found depth ts =
    next (Specify place.Object) (DeepParameter depth) ts ts (specifiers place.Object ts) _ (specifiers_found place.Object ts)
    (λ found s. next IsOptionalName (DeepParameter depth) (stars found.1).1 ts (parameter_name (stars found.1).1) _ (name_found (stars found.1).1)
    (λ n k. next (DeepBrackets depth) (DeepParameter depth) n.1 ts (brackets (nesting depth) n.1) _ (brackets_found depth n.1 (all_good depth))
    (λ b d. (grammar.parameter s (stars_found found.1) k d.0 refl refl, d.1))))

abbrev DeepParameters : ℕ → Grammar (List ParameterTree)
DeepParameters depth all ts rest = Separated IsParameter all ts rest × ParametersNest all depth

abbrev AnyParameters : ℕ → Grammar (List ParameterTree)
AnyParameters depth all ts rest = AreParameters all ts rest × ParametersNest all depth

parameters_on : (all : List ParameterTree) (p : ParameterTree) (depth : ℕ) → ParametersNest all depth → SizeNests p.brackets depth → ParametersNest (all ++ p ∷ []) depth
parameters_on [] p depth h g = (g, tt)
parameters_on (x ∷ all) p depth h g = (h.0, parameters_on all p depth h.1 g)

parameters_found : (depth : ℕ) (ts : List Lexeme) → Found (AnyParameters depth) ts (parameters depth ts)
unfolding parameters
parameters_found depth ts =
    by_test (Found (AnyParameters depth) ts) (is_at mark.CloseParenthesis ts) _ _ (λ _. (no_parameter, tt))
    (λ _. behind_first (AnyParameters depth) mark.Void ts _ _ (λ t rest k. (void k, tt))
    (seen (DeepParameters depth) (AnyParameters depth) ts ts _ (λ all rest h. (grammar.parameters h.0, h.1))
    (next (DeepParameter depth) (DeepParameters depth) ts ts (parameter depth ts) _ (parameter_found depth ts)
    (λ p d. separated_found (DeepParameter depth) (DeepParameters depth) (length p.1) (parameter depth) (λ us. parameter_found depth us)
    (λ done a w t mid rest x k g. (further x.0 k g.0, parameters_on done a depth x.1 g.1))
    (p.0 ∷ []) p.1 ts (first d.0, (d.1, tt))))))

-- ---- functions

have_names : (ps : List ParameterTree) → are_named ps ≡ true → HaveNames ps
have_names [] h = no_more
have_names (p ∷ ps) h = by p.name refl h (λ g. have_names ps g)
  where
    by : (o : Option NameTree) → p.name ≡ o → (if is_some o then are_named ps else false) ≡ true → (are_named ps ≡ true → HaveNames ps) → HaveNames (p ∷ ps)
    by (Some n) e g on = has_name n e (on g)
    by None e g on = no g

abbrev DeepBody : ℕ → List ParameterTree → Grammar (Option BlockTree)
DeepBody depth ps b ts rest = IsBody ps b ts rest × BodyNests b depth

body_there : {ps : List ParameterTree} {b : BlockTree} {ts rest : List Lexeme} → HaveNames ps → IsBlock true b ts rest → IsBody ps (Some b) ts rest
body_there h (a_block o all c) = grammar.body h o all c

body_found : (depth : ℕ) (ps : List ParameterTree) (ts : List Lexeme) → Found (DeepBody depth ps) ts (body depth ps ts)
unfolding body
body_found depth ps ts =
    behind_first (DeepBody depth ps) mark.Semicolon ts _ _ (λ t rest k. (no_body k, tt))
    (by_test (Found (DeepBody depth ps) ts) (are_named ps) _ _
    (λ e. next (Block depth true) (DeepBody depth ps) ts ts (block (reading.statements depth) true ts) _ (block_found depth (all_good_statements depth) true ts)
    (λ b g. (body_there (have_names ps e) g.0, g.1)))
    (λ _. tt))

-- ---- items

abbrev DeepItem : ℕ → Grammar ItemTree
DeepItem depth i ts rest = IsItem i ts rest × ItemNests i depth

-- a function behind the parenthesis that follows its name
data Function (found : SpecifierList) (declarator : List Lexeme) (count : ℕ) (name : NameTree) : FunctionTree → List Lexeme → List Lexeme → Type 0 where
  a_function : {closing : Lexeme} {ps : List ParameterTree} {b : Option BlockTree} {its mid rest : List Lexeme} → AreParameters ps its (closing ∷ mid) → IsPunctuator punctuator.CloseParenthesis closing → IsBody ps b mid rest
      → Function found declarator count name (record { extent = record { first = spot_at declarator; last = closing.spot.at }; base = base_of found; stars = count; name = name; parameters = ps; body = b }) its rest

abbrev DeepFunction : ℕ → SpecifierList → List Lexeme → ℕ → NameTree → Grammar FunctionTree
DeepFunction depth found declarator count name f ts rest = Function found declarator count name f ts rest × ItemNests (Defines f) (suc depth)

function_found : (depth : ℕ) (found : SpecifierList) (declarator : List Lexeme) (count : ℕ) (name : NameTree) (its : List Lexeme) → Passes declarator its
    → Found (DeepFunction depth found declarator count name) its (function (suc depth) found declarator count name its)
unfolding function extent_before
function_found depth found declarator count name its p =
    let one_less : suc depth - 1 ≡ depth = omega arith in
    next (AnyParameters depth) (DeepFunction depth found declarator count name) its its (parameters (suc depth - 1) its) _ (subst (λ (d : ℕ). Found (AnyParameters depth) its (parameters d its)) (sym one_less) (parameters_found depth its))
    (λ ps d. want_next (DeepFunction depth found declarator count name) mark.CloseParenthesis ps.1 its _ (λ l. AreParameters ps.0 its l) d.0
    (λ c mid is x. next (DeepBody (suc depth) ps.0) (DeepFunction depth found declarator count name) mid its (body (suc depth) ps.0 mid) _ (body_found (suc depth) ps.0 mid)
    (λ b g. let before : last_before declarator mid ≡ c.spot.at = last_known (join p (parameters_pass x)) in
    (rw before (a_function x is g.0), (d.1, g.1)))))

stars_there : (found : SpecifierList) (ts : List Lexeme) → AreResultStars found (result_stars found ts).0 ts (result_stars found ts).1
unfolding result_stars
stars_there found ts = by found.is_void refl
  where
    by : (b : Bool) → found.is_void ≡ b → AreResultStars found (cond b (0, ts) (stars ts)).0 ts (cond b (0, ts) (stars ts)).1
    by true e = of_void e
    by false e = of_integer e (stars_found ts)

-- objects, behind the name of the first
objects_found : (depth : ℕ) (found : SpecifierList) (whole declarator mid ts : List Lexeme) (count : ℕ) (name : NameTree) → Specify place.File found whole declarator → AreResultStars found count declarator mid → NameAtFront name mid ts
    → Found (λ i l rest. DeepItem depth i whole rest) ts (objects depth found whole declarator count name ts)
unfolding objects
objects_found depth found whole declarator mid ts count name s c k = by found.is_void refl
  where
    the_stars : {n : ℕ} {l m : List Lexeme} → AreResultStars found n l m → found.is_void ≡ false → AreStars n l m
    the_stars (of_void e) f = let z : false ≡ true = sym f ∙ e in no z
    the_stars (of_integer e x) f = x

    there : {d : DeclarationTree} {rest : List Lexeme} → found.is_void ≡ false → Begun whole (integer_type found) d declarator rest → IsItem (Declares d) whole rest
    there e (begun x j) = grammar.objects s e x j

    by : (b : Bool) → found.is_void ≡ b → Found (λ i l rest. DeepItem depth i whole rest) ts
        (cond b (Err (stuck ts)) (named_declarator depth declarator count name ts >>= λ d. begun_declaration depth whole (integer_type found) d.0 d.1 >>= λ x. Ok (Declares x.0, x.1)))
    by true e = tt
    by false e =
        next (Named depth declarator count name) (λ i l rest. DeepItem depth i whole rest) ts ts (named_declarator depth declarator count name ts) _ (named_found depth declarator count name ts)
        (λ d n. next (DeepBegun depth whole (integer_type found)) (λ i l rest. DeepItem depth i whole rest) declarator ts (begun_declaration depth whole (integer_type found) d.0 d.1) _
        (begun_found depth whole (integer_type found) d.0 d.1 declarator (specifiers_pass s.words) (whole_declarator depth (the_stars c e) k n))
        (λ x g. (there e g.0, g.1)))

function_there : {found : SpecifierList} {count : ℕ} {name : NameTree} {f : FunctionTree} {ts declarator mid behind_name its rest : List Lexeme} (o : Lexeme) → Specify place.File found ts declarator → AreResultStars found count declarator mid
    → NameAtFront name mid behind_name → behind_name ≡ o ∷ its → IsPunctuator punctuator.OpenParenthesis o → Function found declarator count name f its rest → IsItem (Defines f) ts rest
function_there {found} {count} {name} {f} {ts} {declarator} {mid} {behind_name} {its} {rest} o s c (name_at_front {t = t} k) same p (a_function x is b) =
    grammar.function s (subst (λ (l : List Lexeme). AreResultStars found count declarator (t ∷ l)) same c) k p x is b

named_passes : {n : NameTree} {ts rest : List Lexeme} → NameAtFront n ts rest → Passes ts rest
named_passes (name_at_front k) = passed here

external_found : (depth : ℕ) (ts : List Lexeme) → Found (DeepItem (suc depth)) ts (external (suc depth) ts)
unfolding external
external_found depth ts =
    next (Specify place.File) (DeepItem (suc depth)) ts ts (specifiers place.File ts) _ (specifiers_found place.File ts)
    (λ found s. next NameAtFront (DeepItem (suc depth)) (result_stars found.0 found.1).1 ts (identifier (result_stars found.0 found.1).1) _ (identifier_found (result_stars found.0 found.1).1)
    (λ name k. behind_next (DeepItem (suc depth)) mark.OpenParenthesis name.1 ts _ _ (λ l. name.1 ≡ l) refl
    (λ o its p same. next (DeepFunction depth found.0 found.1 (result_stars found.0 found.1).0 name.0) (DeepItem (suc depth)) its ts
    (function (suc depth) found.0 found.1 (result_stars found.0 found.1).0 name.0 its) _
    (function_found depth found.0 found.1 (result_stars found.0 found.1).0 name.0 its
    (join (result_stars_pass (stars_there found.0 found.1)) (join (named_passes k) (subst (λ (l : List Lexeme). Passes l its) (sym same) (passed here)))))
    (λ f g. (function_there o s (stars_there found.0 found.1) k same p g.0, g.1)))
    (seen (λ i l rest. DeepItem (suc depth) i ts rest) (DeepItem (suc depth)) name.1 ts (objects (suc depth) found.0 ts found.1 (result_stars found.0 found.1).0 name.0 name.1) (λ i rest h. h)
    (objects_found (suc depth) found.0 ts found.1 (result_stars found.0 found.1).1 name.1 (result_stars found.0 found.1).0 name.0 s (stars_there found.0 found.1) k))))

its_header : (h : token_header.Header) → IsHeader h (header h)
its_header token_headers.Stdio = stdio
its_header token_headers.Stdlib = stdlib

item_found_of : (depth : ℕ) (w : Word) (t : Lexeme) (ts : List Lexeme) → t.kind ≡ w → Found (DeepItem (suc depth)) (t ∷ ts) (item_of (suc depth) w t ts)
item_found_of depth (word.Include h) t ts k = (grammar.include k (its_header h), tt)
item_found_of depth w t ts k = external_found depth (t ∷ ts)

item_found : (depth : ℕ) (ts : List Lexeme) → Found (DeepItem (suc depth)) ts (item (suc depth) ts)
unfolding item
item_found depth [] = tt
item_found depth (t ∷ ts) = item_found_of depth t.kind t ts refl

-- ---- files

-- what is read of a file is spelled
abbrev Whole : ℕ → List Lexeme → Result (List ItemTree) Stuck → Type 0
Whole depth ts (Ok all) = IsFile all ts × ItemsNest all depth
Whole depth ts (Err s) = Unit {0}

-- with these items before them, items are a file
abbrev Before : ℕ → List ItemTree → (whole ts : List Lexeme) → Type 0
Before depth done whole ts = (more : List ItemTree) → IsFile more ts → ItemsNest more depth → IsFile (done ++ more) whole × ItemsNest (done ++ more) depth

before_on : (depth : ℕ) (done : List ItemTree) (i : ItemTree) (whole ts mid : List Lexeme) → Before depth done whole ts → DeepItem depth i ts mid → Before depth (done ++ i ∷ []) whole mid
before_on depth done i whole ts mid h g more r n =
    subst (λ (l : List ItemTree). IsFile l whole × ItemsNest l depth) (sym (append_assoc done (i ∷ []) more)) (h (i ∷ more) (grammar.item g.0 r) (g.1, n))

ended : (depth : ℕ) (done : List ItemTree) (whole : List Lexeme) → Before depth done whole [] → IsFile done whole × ItemsNest done depth
ended depth done whole h = subst (λ (l : List ItemTree). IsFile l whole × ItemsNest l depth) (append-nil done) (h [] nothing_more tt)

item_next : (depth : ℕ) (ts whole : List Lexeme) (r : Result (ItemTree × List Lexeme) Stuck) (f : ItemTree × List Lexeme → Result (List ItemTree) Stuck) → Found (DeepItem depth) ts r
    → ((x : ItemTree × List Lexeme) → DeepItem depth x.0 ts x.1 → Whole depth whole (f x)) → Whole depth whole (r >>= f)
item_next depth ts whole (Ok x) f h k = k x h
item_next depth ts whole (Err s) f h k = tt

from_found : (n depth : ℕ) (done : List ItemTree) (ts whole : List Lexeme) → length ts ≤ n → Before (suc depth) done whole ts → Whole (suc depth) whole (items_from n (suc depth) done ts)
from_found zero depth done [] whole le h = ended (suc depth) done whole h
from_found zero depth done (t ∷ ts) whole le h = absurd (omega (arith, le))
from_found (suc n) depth done [] whole le h = ended (suc depth) done whole h
from_found (suc n) depth done (t ∷ ts) whole le h =
    item_next (suc depth) (t ∷ ts) whole (item (suc depth) (t ∷ ts)) _ (item_found depth (t ∷ ts))
    (λ x g. from_found n depth (done ++ x.0 ∷ []) x.1 whole (omega (arith, le, item_shorter g.0)) (before_on (suc depth) done x.0 whole (t ∷ ts) x.1 h g))

-- What is read as the tree of tokens is spelled by them, and nests 64 deep at most.
pub tree_spelled : (ts : List Lexeme) (all : List ItemTree) → tree_of ts ≡ Ok all → Spells ts all × ItemsNest all 64
unfolding tree_of items
tree_spelled ts all e = by (items_from (length ts) 64 [] ts) (from_found (length ts) 63 [] ts ts (omega arith) (λ more r n. (r, n))) e
  where
    by : (r : Result (List ItemTree) Stuck) → Whole 64 ts r → answer ts r ≡ Ok all → Spells ts all × ItemsNest all 64
    by (Ok found) g is =
        let same : found ≡ all = cc in
        subst (λ (l : List ItemTree). Spells ts l × ItemsNest l 64) same g
    by (Err s) g is = absurd cc
