-- The tree that is read from sound tokens stands in order, and is formed.
use Rattle.std.proofs.Common.{◌≡◌, ℕ, zero, suc, ◌-◌, Bool, true, false, List, [], ◌∷◌, ◌++◌, length, Option, Some, None, Result, Ok, Err, refl, ap, subst}
use Rattle.std.specs.Prelude.{is_some, if◌then◌else◌}
use Rattle.debug_records.specs.declared.source.Spot.{Spot}
use Rattle.c_token.specs.Lexemes.{Lexeme, Word}
use Rattle.c_token.specs.Lexemes as word
use Rattle.c_token.specs.Texts.{tokens_of}
use Rattle.c_tree.specs.Expressions.{NameTree}
use Rattle.c_tree.specs.Declarations.{ParameterTree}
use Rattle.c_tree.specs.Trees.{ItemTree}
use Rattle.c_parse_tokens.specs.declared.fault.Stuck.{Stuck}
use Rattle.c_parse_tokens.specs.declared.mark.Mark.TheVariants as mark
use Rattle.c_parse_tokens.specs.declared.specifier.Place.TheVariants as place
use Rattle.c_parse_tokens.specs.declared.specifier.SpecifierList.{SpecifierList}
use Rattle.c_parse_tokens.specs.Outcome.{◌>>=◌}
use Rattle.c_parse_tokens.specs.Front.{is_at, tokens_behind}
use Rattle.c_parse_tokens.specs.Specifiers.{specifiers, integer_type, stars}
use Rattle.c_parse_expressions.specs.Expressions.{nesting}
use Rattle.c_parse_statements.specs.Declarations.{identifier, brackets, named_declarator, begun_declaration}
use Rattle.c_parse_statements.specs.Statements as reading
use Rattle.c_parse_statements.specs.Statements.{block}
use Rattle.c_parse.specs.Reading.{begins_with_name, parameter_name, parameter, parameters, are_named, body, function, result_stars, objects, external, item_of, item, items_from, items, answer, tree_of}
use Rattle.c_type_laws.specs.Names.{is_name}
use Rattle.c_type_laws.specs.Statics.{are_bytes}
use Rattle.c_source.specs.Files.{has_name, AreSizesFormed, HaveNames, AreNamesFormed, AreItemsFormed}
use Rattle.c_source.specs.TextOrder.{spots_of_name, spots_of_brackets, spots_of_parameters, spots_of_item, spots_of_items, IsInTextOrder, AreWithinText}
use Rattle.c_source.specs.Tokens.{AreSound}
use Rattle.c_source.specs.Standing.{Stand, none, told, Found, plain, spots_of_many, AreAllFormed, many}
use Rattle.c_source.specs.Trees as trees
use Rattle.c_source.proofs.Bytes.{by_test}
use Rattle.c_source.proofs.Ascending.{tokens_ascend, tokens_sound}
use Rattle.c_source.proofs.Standing.{join, trail, silent, same_spots, in_order, next, seen, option_next, one_more, formed_on, only_one}
use Rattle.c_source.proofs.Fronts.{behind_leads, want_next, specifiers_found, Passes, stars_pass, separated_found}
use Rattle.c_source.proofs.CReadingsExpressions.{nesting_good}
use Rattle.c_source.proofs.Declarations.{identifier_found, brackets_found, named_found, begun_found}
use Rattle.c_source.proofs.CReadingsWithin.{some_within, tokens_within}
use Rattle.c_source.proofs.CReadingsStatements.{statements_good, block_found}

-- ---- parameters

name_found : (ts : List Lexeme) → AreSound ts → Found trees.optional_names ts (parameter_name ts)
unfolding parameter_name
name_found ts h =
    by_test (Found trees.optional_names ts) (begins_with_name ts) _ _
    (λ _. next trees.names trees.optional_names ts ts (identifier ts) _ (identifier_found ts h) (λ n s f u. (s, f, u)))
    (λ _. (none, tt, h))

parameter_found : (depth : ℕ) (ts : List Lexeme) → AreSound ts → Found trees.parameters ts (parameter depth ts)
unfolding parameter
parameter_found depth ts h =
    next plain trees.parameters ts ts (specifiers place.Object ts) _ (specifiers_found place.Object ts h)
    (λ found r _ u. let p = stars_pass found.1 u in
    next trees.optional_names trees.parameters (stars found.1).1 ts (parameter_name (stars found.1).1) _ (name_found (stars found.1).1 p.1)
    (λ n s f v. next trees.sizes trees.parameters n.1 ts (brackets (nesting depth) n.1) _ (brackets_found (nesting depth) n.1 (nesting_good depth) v)
    (λ b q g w. (join r (join p.0 (join s q)), (g, f), w))))

as_parameters : (all : List ParameterTree) → spots_of_many trees.parameters all ≡ spots_of_parameters all
as_parameters [] = refl
as_parameters (d ∷ all) = ap (λ (l : List Spot). spots_of_name d.name ++ spots_of_brackets d.brackets ++ l) (as_parameters all)

formed_parameters : (all : List ParameterTree) → AreAllFormed trees.parameters all → AreSizesFormed all × AreNamesFormed all
formed_parameters [] h = (tt, tt)
formed_parameters (d ∷ all) h = let rest = formed_parameters all h.1 in ((h.0.0, rest.0), (h.0.1, rest.1))

parameters_found : (depth : ℕ) (ts : List Lexeme) → AreSound ts → Found trees.parameter_lists ts (parameters depth ts)
unfolding parameters
parameters_found depth ts h =
    by_test (Found trees.parameter_lists ts) (is_at mark.CloseParenthesis ts) _ _ (λ _. (none, (tt, tt), h))
    (λ _. option_next trees.parameter_lists ts ts (tokens_behind mark.Void ts) _ _ (behind_leads mark.Void ts h) (λ rest r u. (silent r, (tt, tt), u))
    (seen (many trees.parameters) trees.parameter_lists ts _ as_parameters formed_parameters
    (next trees.parameters (many trees.parameters) ts ts (parameter depth ts) _ (parameter_found depth ts h)
    (λ p s f u. separated_found trees.parameters (length p.1) (parameter depth) (λ us v. parameter_found depth us v) (p.0 ∷ []) p.1 ts (only_one trees.parameters p.0 ts p.1 s) (f, tt) u))))

-- ---- functions

has_its_name : (d : ParameterTree) (o : Option NameTree) → d.name ≡ o → is_some o ≡ true → has_name d
has_its_name d (Some n) e h = (n, e)
has_its_name d None e h = absurd cc

have_names : (ps : List ParameterTree) → are_named ps ≡ true → HaveNames ps
have_names [] h = tt
have_names (d ∷ ps) h = by (is_some d.name) refl h (have_names ps)
  where
    by : (b : Bool) → is_some d.name ≡ b → (if b then are_named ps else false) ≡ true → (are_named ps ≡ true → HaveNames ps) → has_name d × HaveNames ps
    by true e g on = (has_its_name d d.name refl e, on g)
    by false e g on = absurd cc

body_found : (depth : ℕ) (ps : List ParameterTree) (ts : List Lexeme) → AreNamesFormed ps → AreSound ts → Found (trees.bodies ps) ts (body depth ps ts)
unfolding body
body_found depth ps ts named h =
    option_next (trees.bodies ps) ts ts (tokens_behind mark.Semicolon ts) _ _ (behind_leads mark.Semicolon ts h) (λ rest r u. (silent r, named, u))
    (by_test (Found (trees.bodies ps) ts) (are_named ps) _ _
    (λ e. next (trees.blocks true) (trees.bodies ps) ts ts (block (reading.statements depth) true ts) _ (block_found (reading.statements depth) (statements_good depth) true ts h)
    (λ b s f u. (s, (have_names ps e, f.0, named), u)))
    (λ _. tt))

function_found : (depth : ℕ) (found : SpecifierList) (begin : List Lexeme) (count : ℕ) (name : NameTree) (ts whole : List Lexeme) → Stand (name.spot ∷ []) whole ts → is_name name.name ≡ true → AreSound ts
    → Found trees.functions whole (function depth found begin count name ts)
unfolding function
function_found depth found begin count name ts whole s n h =
    next trees.parameter_lists trees.functions ts whole (parameters (depth - 1) ts) _ (parameters_found (depth - 1) ts h)
    (λ ps r f u. want_next trees.functions mark.CloseParenthesis ps.1 whole _ u
    (λ rest q v. next (trees.bodies ps.0) trees.functions rest whole (body depth ps.0 rest) _ (body_found depth ps.0 rest f.1 v)
    (λ b p g w. (join s (join (trail r (silent q)) p), (f.0, g, n), w))))

-- ---- items

result_pass : (found : SpecifierList) (ts : List Lexeme) → AreSound ts → Passes ts (result_stars found ts).1
unfolding result_stars
result_pass found ts h = by_test (λ (x : ℕ × List Lexeme). Passes ts x.1) found.is_void _ _ (λ _. (none, h)) (λ _. stars_pass ts h)

objects_found : (depth : ℕ) (found : SpecifierList) (all begin : List Lexeme) (count : ℕ) (name : NameTree) (ts whole : List Lexeme) → Stand (name.spot ∷ []) whole ts → is_name name.name ≡ true → AreSound ts
    → Found trees.items whole (objects depth found all begin count name ts)
unfolding objects
objects_found depth found all begin count name ts whole s n h =
    by_test (Found trees.items whole) found.is_void _ _ (λ _. tt)
    (λ _. next trees.declarators trees.items whole whole (named_declarator depth begin count name ts) _ (named_found depth begin count name ts whole s n h)
    (λ d r f u. next trees.declarations trees.items whole whole (begun_declaration depth all (integer_type found) d.0 d.1) _ (begun_found depth all (integer_type found) d.0 d.1 whole r f u)
    (λ x q g v. (q, g, v))))

external_found : (depth : ℕ) (ts : List Lexeme) → AreSound ts → Found trees.items ts (external depth ts)
unfolding external
external_found depth ts h =
    next plain trees.items ts ts (specifiers place.File ts) _ (specifiers_found place.File ts h)
    (λ found r _ u. let p = result_pass found.0 found.1 u in
    next trees.names trees.items (result_stars found.0 found.1).1 ts (identifier (result_stars found.0 found.1).1) _ (identifier_found (result_stars found.0 found.1).1 p.1)
    (λ name s n v. option_next trees.items name.1 ts (tokens_behind mark.OpenParenthesis name.1) _ _ (behind_leads mark.OpenParenthesis name.1 v)
    (λ its q w. next trees.functions trees.items ts ts (function depth found.0 found.1 (result_stars found.0 found.1).0 name.0 its) _
    (function_found depth found.0 found.1 (result_stars found.0 found.1).0 name.0 its ts (join r (join p.0 (trail s (silent q)))) n w) (λ x z g y. (z, g, y)))
    (objects_found depth found.0 ts found.1 (result_stars found.0 found.1).0 name.0 name.1 ts (join r (join p.0 s)) n v)))

item_found_of : (depth : ℕ) (w : Word) (t : Lexeme) (ts : List Lexeme) → AreSound (t ∷ ts) → Found trees.items (t ∷ ts) (item_of depth w t ts)
item_found_of depth (word.Include i) t ts h = (told t none, tt, h.1)
item_found_of depth w t ts h = external_found depth (t ∷ ts) h

item_found : (depth : ℕ) (ts : List Lexeme) → AreSound ts → Found trees.items ts (item depth ts)
unfolding item
item_found depth [] h = tt
item_found depth (t ∷ ts) h = item_found_of depth t.kind t ts h

-- what is read of a source stands in its tokens, and is formed
abbrev Items : List Lexeme → Result (List ItemTree) Stuck → Type 0
Items whole (Ok all) = (rest : List Lexeme) × Stand (spots_of_many trees.items all) whole rest × AreAllFormed trees.items all
Items whole (Err s) = Unit {0}

item_next : (ts whole : List Lexeme) (r : Result (ItemTree × List Lexeme) Stuck) (f : ItemTree × List Lexeme → Result (List ItemTree) Stuck) → Found trees.items ts r
    → ((x : ItemTree × List Lexeme) → Stand (spots_of_item x.0) ts x.1 → trees.items.formed x.0 → AreSound x.1 → Items whole (f x)) → Items whole (r >>= f)
item_next ts whole (Ok x) f h k = k x h.0 h.1 h.2
item_next ts whole (Err s) f h k = tt

from_found : (n depth : ℕ) (done : List ItemTree) (ts whole : List Lexeme) → Stand (spots_of_many trees.items done) whole ts → AreAllFormed trees.items done → AreSound ts → Items whole (items_from n depth done ts)
from_found zero depth done ts whole s f h = (ts, s, f)
from_found (suc n) depth done [] whole s f h = ([], s, f)
from_found (suc n) depth done (t ∷ ts) whole s f h =
    item_next (t ∷ ts) whole (item depth (t ∷ ts)) _ (item_found depth (t ∷ ts) h)
    (λ x q g u. from_found n depth (done ++ x.0 ∷ []) x.1 whole (one_more trees.items done x.0 whole (t ∷ ts) x.1 s q) (formed_on trees.items done x.0 f g) u)

as_items : (all : List ItemTree) → spots_of_many trees.items all ≡ spots_of_items all
as_items [] = refl
as_items (i ∷ all) = ap (λ (l : List Spot). spots_of_item i ++ l) (as_items all)

formed_items : (all : List ItemTree) → AreAllFormed trees.items all → AreItemsFormed all
formed_items [] h = tt
formed_items (i ∷ all) h = (h.0, formed_items all h.1)

-- where the tree of tokens stands in them, and its form
abbrev Tree : List Lexeme → List ItemTree → Type 0
Tree ts all = (rest : List Lexeme) × Stand (spots_of_items all) ts rest × AreItemsFormed all

tree_found : (ts : List Lexeme) (all : List ItemTree) → AreSound ts → tree_of ts ≡ Ok all → Tree ts all
unfolding tree_of items
tree_found ts all h e = by (items_from (length ts) 64 [] ts) (from_found (length ts) 64 [] ts ts none tt h) e
  where
    by : (r : Result (List ItemTree) Stuck) → Items ts r → answer ts r ≡ Ok all → Tree ts all
    by (Ok found) g is =
        let same : found ≡ all = cc in
        subst (Tree ts) same (g.0, same_spots (as_items found) g.1, formed_items found g.2)
    by (Err s) g is = absurd cc

module _ (text : List ℕ) (tokens : List Lexeme) (all : List ItemTree) (bytes : are_bytes text ≡ true) (spelled : tokens_of text ≡ Ok tokens) (read : tree_of tokens ≡ Ok all) where
  there : Tree tokens all
  there = tree_found tokens all (tokens_sound text tokens bytes spelled) read

  -- The tree of a text stands in the order of the text.
  pub tree_in_order : IsInTextOrder all
  tree_in_order = in_order there.1 (tokens_ascend text tokens spelled)

  -- It stands within the text.
  pub tree_within : AreWithinText (spots_of_items all)
  tree_within = some_within there.1 (tokens_within text tokens spelled)

  -- The tree of a text is as the grammar forms trees.
  pub tree_formed : AreItemsFormed all
  tree_formed = there.2
