-- What is read as an expression is spelled by its tokens, and nests no deeper than it may.
use Rattle.std.proofs.Common.{◌≡◌, ℕ, zero, suc, Bool, true, false, ◌&&◌, List, [], ◌∷◌, ◌++◌, length, Option, Some, None, Ok, refl, ap, subst, arith}
use Rattle.std.specs.Prelude.{nat_eq}
use Rattle.std.specs.Option.{option_map_or}
use Rattle.c_token.specs.declared.token.Keyword.TheVariants as keyword
use Rattle.c_token.specs.declared.token.Punctuator.{Punctuator}
use Rattle.c_token.specs.declared.token.Punctuator.TheVariants as punctuator
use Rattle.c_token.specs.Lexemes.{Lexeme, Word}
use Rattle.c_token.specs.Lexemes as word
use Rattle.c_tree.specs.declared.extent.Extent.{Extent}
use Rattle.c_tree.specs.declared.operator.BinaryOperator.{BinaryOperator}
use Rattle.c_tree.specs.declared.operator.AssignmentOperator.{AssignmentOperator}
use Rattle.c_tree.specs.declared.operator.PrefixOperator.{PrefixOperator}
use Rattle.c_tree.specs.declared.types.IntegerType.{IntegerType}
use Rattle.c_tree.specs.Expressions.{ExpressionTree, SuffixTree, suffixed, Indexes, Calls, Increments, Decrements, chain_of_arguments}
use Rattle.c_tree.specs.Expressions as tree
use Rattle.c_parse_tokens.specs.declared.mark.Mark.TheVariants as mark
use Rattle.c_parse_tokens.specs.declared.specifier.Place.TheVariants as place
use Rattle.c_parse_tokens.specs.declared.specifier.SpecifierList.{SpecifierList}
use Rattle.c_parse_tokens.specs.Outcome.{Parser, ◌>>=◌}
use Rattle.c_parse_tokens.specs.Front.{inside, is_at, tokens_behind, want, last_before, extent_before}
use Rattle.c_parse_tokens.specs.Operators.{punctuator_of, binary_operator, operator_at, assignment_operator, assignment_at, prefix_operator}
use Rattle.c_parse_tokens.specs.Specifiers.{specifiers, integer_type, base_of, is_parenthesis, names_type, type_behind, stars}
use Rattle.c_parse_expressions.specs.declared.expression.Sort.{Sort}
use Rattle.c_parse_expressions.specs.declared.expression.Sort.TheVariants as sort
use Rattle.c_parse_expressions.specs.declared.expression.SuffixStart.{SuffixStart}
use Rattle.c_parse_expressions.specs.declared.expression.SuffixStart.TheVariants as start
use Rattle.c_parse_expressions.specs.Expressions.{nested, literal_of, literals_at_front, primary_of, primary, arguments, suffix_start, suffix_at, suffix, suffixes, postfix, operand_of, prefix, sizeof_expression, array_size, sizeof_tree, sizeof_type, unary_of, unary, pointed, type_name, cast, operations, levels, conditional, assignment, more_commas, comma, expression_of, nesting}
use Rattle.c_parse.specs.Tokens.{Grammar, IsPunctuator, IsKeyword, from_to, AreLiterals, one, more}
use Rattle.std.proofs.lemmas.Bool.Decides.{nat_tests}
use Rattle.c_parse.specs.Types.{Specify, AreStars, IsTypeName, nothing, integer}
use Rattle.c_parse.specs.Expressions.{IsUnaryOperator, IsPrimary, IsPostfix, AreArguments, IsUnary, IsCast, IsLevel, IsConditional, IsAssignment, IsExpression}
use Rattle.c_parse.specs.Expressions as grammar
use Rattle.c_parse.proofs.Nesting.{Within, Nests, AllNest}
use Rattle.c_parse.proofs.Words.{no, some_same, never, punctuator_there, literal_there, parenthesis_there}
use Rattle.c_parse.proofs.Passing.{Passes, here, behind as passed, join, step, last_known, literals_pass}
use Rattle.c_parse.proofs.ExpressionsPass.{specifiers_pass, stars_pass, assignment_passes, expression_passes, arguments_pass}
use Rattle.c_parse.proofs.Reading.{Found, by_test, by_option, next, seen, want_next, behind_next, separated_found, specifiers_found, stars_found}

-- the expressions of a sort
abbrev pub IsOf : Sort → Grammar ExpressionTree
IsOf sort.Comma e ts rest = IsExpression e ts rest
IsOf sort.Assignment e ts rest = IsAssignment e ts rest
IsOf sort.Conditional e ts rest = IsConditional e ts rest
IsOf sort.Cast e ts rest = IsCast e ts rest
IsOf sort.Unary e ts rest = IsUnary e ts rest

-- expressions that nest so deep at most
abbrev pub Deep : ℕ → Grammar ExpressionTree → Grammar ExpressionTree
Deep depth G e ts rest = G e ts rest × Nests e depth

-- expressions that stand within another where so many levels are left
abbrev pub Inner : ℕ → Grammar ExpressionTree → Grammar ExpressionTree
Inner depth G e ts rest = G e ts rest × Within depth (λ d. Nests e d)

-- what is read with so many levels is spelled
abbrev pub Goods : ℕ → Type 0
Goods zero = Unit {0}
Goods (suc depth) = ((s : Sort) (ts : List Lexeme) → Found (Deep depth (IsOf s)) ts (expression_of (nesting depth) s ts)) × Goods depth

pub nested_found : (depth : ℕ) (s : Sort) (ts : List Lexeme) → Goods depth → Found (Inner depth (IsOf s)) ts (nested (nesting depth) s ts)
unfolding nested nesting
nested_found zero s ts g = tt
nested_found (suc depth) s ts g = g.0 s ts

-- ---- literals

literals_found : (bytes : List ℕ) (last : Lexeme) (ts whole : List Lexeme) → AreLiterals bytes last whole ts → (l : Lexeme) × AreLiterals (literals_at_front bytes ts).0 l whole (literals_at_front bytes ts).1
literals_found bytes last [] whole h = (last, h)
literals_found bytes last (t ∷ ts) whole h =
    by_option (λ (x : List ℕ × List Lexeme). (l : Lexeme) × AreLiterals x.0 l whole x.1) _ (literal_of t.kind) _
    (λ part e. literals_found (bytes ++ part) t ts whole (more h (literal_there t.kind part e)))
    (last, h)

-- ---- what stands at the front

pub suffix_front : (t : Lexeme) (ts : List Lexeme) (P : Option (SuffixStart × List Lexeme) → Type 0) → ((s : SuffixStart) (p : Punctuator) → IsPunctuator p t → suffix_start p ≡ Some s → P (Some (s, ts))) → P None → P (suffix_at (t ∷ ts))
unfolding suffix_at
suffix_front t ts P f n = by_option P _ (punctuator_of t.kind) _ (λ p k. by_option P _ (suffix_start p) _ (λ s e. f s p (punctuator_there t.kind p k) e) n) n

same_pair : {A : Type 0} (x : ℕ × A) (level : ℕ) → nat_eq x.0 level ≡ true → x ≡ (level, x.1)
same_pair x level e = let n : x.0 ≡ level = nat_eq_there x.0 level e in ap (λ (m : ℕ). (m, x.1)) n
  where
    nat_eq_there : (a b : ℕ) → nat_eq a b ≡ true → a ≡ b
    nat_eq_there a b h = grind (arith, nat_tests, h)

pub operator_front : (t : Lexeme) (ts : List Lexeme) (level : ℕ) (P : Option (BinaryOperator × List Lexeme) → Type 0)
    → ((o : BinaryOperator) (p : Punctuator) → IsPunctuator p t → binary_operator p ≡ Some (level, o) → P (Some (o, ts))) → P None → P (operator_at level (t ∷ ts))
unfolding operator_at
operator_front t ts level P f n =
    by_option P _ (punctuator_of t.kind) _
    (λ p k. by_option P _ (binary_operator p) _
    (λ o e. by_test P (nat_eq o.0 level) _ _ (λ i. f o.1 p (punctuator_there t.kind p k) (subst (λ (x : ℕ × BinaryOperator). binary_operator p ≡ Some x) (same_pair o level i) e)) (λ _. n)) n)
    n

pub assignment_front : (t : Lexeme) (ts : List Lexeme) (P : Option (AssignmentOperator × List Lexeme) → Type 0)
    → ((o : AssignmentOperator) (p : Punctuator) → IsPunctuator p t → assignment_operator p ≡ Some o → P (Some (o, ts))) → P None → P (assignment_at (t ∷ ts))
unfolding assignment_at
assignment_front t ts P f n = by_option P _ (punctuator_of t.kind) _ (λ p k. by_option P _ (assignment_operator p) _ (λ o e. f o p (punctuator_there t.kind p k) e) n) n

-- how the first token of a suffix is written
abbrev start_word : SuffixStart → Punctuator
start_word start.Index = punctuator.OpenBracket
start_word start.Call = punctuator.OpenParenthesis
start_word start.Increment = punctuator.Increment
start_word start.Decrement = punctuator.Decrement

start_there : (p : Punctuator) (s : SuffixStart) → suffix_start p ≡ Some s → p ≡ start_word s
unfolding suffix_start
start_there punctuator.OpenBracket s e = ap start_word (some_same e)
start_there punctuator.OpenParenthesis s e = ap start_word (some_same e)
start_there punctuator.Increment s e = ap start_word (some_same e)
start_there punctuator.Decrement s e = ap start_word (some_same e)
start_there p s e = never e

-- ---- arguments

all_nest_on : (es : List ExpressionTree) (e : ExpressionTree) (depth : ℕ) → AllNest (chain_of_arguments es) depth → Within depth (λ d. Nests e d) → AllNest (chain_of_arguments (es ++ e ∷ [])) depth
all_nest_on [] e depth h g = (g, tt)
all_nest_on (x ∷ es) e depth h g = (h.0, all_nest_on es e depth h.1 g)

-- arguments, or none
data AreArgumentsIfAny : List ExpressionTree → List Lexeme → List Lexeme → Type 0 where
  none : {rest : List Lexeme} → AreArgumentsIfAny [] rest rest
  some : {es : List ExpressionTree} {ts rest : List Lexeme} → AreArguments es ts rest → AreArgumentsIfAny es ts rest

-- arguments that nest so deep at most
abbrev DeepArguments : ℕ → Grammar (List ExpressionTree)
DeepArguments depth es ts rest = AreArguments es ts rest × AllNest (chain_of_arguments es) depth

abbrev DeepIfAny : ℕ → Grammar (List ExpressionTree)
DeepIfAny depth es ts rest = AreArgumentsIfAny es ts rest × AllNest (chain_of_arguments es) depth

called : {opening closing : Lexeme} {e : ExpressionTree} {es : List ExpressionTree} {whole mid rest : List Lexeme} (l : List Lexeme) → l ≡ closing ∷ rest → IsPostfix e whole (opening ∷ mid) → IsPunctuator punctuator.OpenParenthesis opening
    → AreArgumentsIfAny es mid l → IsPunctuator punctuator.CloseParenthesis closing → IsPostfix (tree.Call e (chain_of_arguments es) (last_before (opening ∷ mid) rest)) whole rest
called {opening} {closing} {e} {es} {whole} {mid} {rest} l same h o none c =
    let there = subst (λ (m : List Lexeme). IsPostfix e whole (opening ∷ m)) same h in
    let before : last_before (opening ∷ mid) rest ≡ closing.spot.at = last_known (subst (λ (m : List Lexeme). Passes (opening ∷ mid) m) same (passed here)) in
    rw before (grammar.call_of_none there o c)
called {opening} {closing} {e} {es} {whole} {mid} {rest} l same h o (some a) c =
    let b = subst (λ (m : List Lexeme). AreArguments es mid m) same a in
    let before : last_before (opening ∷ mid) rest ≡ closing.spot.at = last_known (passed (arguments_pass b)) in
    rw before (grammar.call h o b c)

module _ (depth : ℕ) (good : Goods depth) where
  inner : (s : Sort) (ts : List Lexeme) → Found (Inner depth (IsOf s)) ts (nested (nesting depth) s ts)
  inner s ts = nested_found depth s ts good

  -- ---- primary expressions

  literal_found : (t : Lexeme) (bytes : List ℕ) (ts : List Lexeme) → t.kind ≡ word.Literal bytes
      → IsPrimary (tree.Literal (extent_before (t ∷ ts) (literals_at_front bytes ts).1) (literals_at_front bytes ts).0) (t ∷ ts) (literals_at_front bytes ts).1
  unfolding extent_before
  literal_found t bytes ts k =
      let l = literals_found bytes t ts (t ∷ ts) (one k) in
      let before : last_before (t ∷ ts) (literals_at_front bytes ts).1 ≡ l.0.spot.at = last_known (literals_pass l.1) in
      rw before (grammar.literals l.1)

  primary_found_of : (w : Word) (t : Lexeme) (ts : List Lexeme) → t.kind ≡ w → Found (Deep depth IsPrimary) (t ∷ ts) (primary_of (nesting depth) w t ts)
  unfolding extent_before
  primary_found_of (word.Name name) t ts k = (grammar.name k, tt)
  primary_found_of (word.Constant c) t ts k = (grammar.constant k, tt)
  primary_found_of (word.Literal bytes) t ts k = (literal_found t bytes ts k, tt)
  primary_found_of (word.Punctuator punctuator.OpenParenthesis) t ts k =
      next (Inner depth (IsOf sort.Comma)) (Deep depth IsPrimary) ts (t ∷ ts) (nested (nesting depth) sort.Comma ts) _ (inner sort.Comma ts)
      (λ e d. want_next (Deep depth IsPrimary) mark.CloseParenthesis e.1 (t ∷ ts) _ (λ l. IsExpression e.0 ts l) d.0
      (λ c rest is x. let before : last_before (t ∷ ts) rest ≡ c.spot.at = last_known (passed (expression_passes x)) in
      (rw before (grammar.parenthesized k x is), d.1)))
  primary_found_of w t ts k = tt

  primary_found : (ts : List Lexeme) → Found (Deep depth IsPrimary) ts (primary (nesting depth) ts)
  unfolding primary
  primary_found [] = tt
  primary_found (t ∷ ts) = primary_found_of t.kind t ts refl

  -- ---- suffixes

  arguments_found : (ts : List Lexeme) → Found (DeepIfAny depth) ts (arguments (nesting depth) ts)
  unfolding arguments
  arguments_found ts =
      by_test (Found (DeepIfAny depth) ts) (is_at mark.CloseParenthesis ts) _ _ (λ _. (none, tt))
      (λ _. seen (DeepArguments depth) (DeepIfAny depth) ts ts _ (λ es rest h. (some h.0, h.1))
      (next (Inner depth (IsOf sort.Assignment)) (DeepArguments depth) ts ts (nested (nesting depth) sort.Assignment ts) _ (inner sort.Assignment ts)
      (λ e d. separated_found (Inner depth (IsOf sort.Assignment)) (DeepArguments depth) (length e.1) (nested (nesting depth) sort.Assignment) (λ us. inner sort.Assignment us)
      (λ done a whole t mid rest h k g. (grammar.more h.0 k g.0, all_nest_on done a depth h.1 g.1))
      (e.0 ∷ []) e.1 ts (grammar.one d.0, (d.1, tt)))))

  -- an operand with a suffix behind it
  abbrev Suffixed : ExpressionTree → (whole : List Lexeme) → Grammar SuffixTree
  Suffixed operand whole x ts rest = IsPostfix (suffixed operand x) whole rest × Nests (suffixed operand x) depth

  suffix_found : (s : SuffixStart) (operand : ExpressionTree) (t : Lexeme) (ts whole : List Lexeme) → IsPunctuator (start_word s) t → IsPostfix operand whole (t ∷ ts) → Nests operand depth
      → Found (Suffixed operand whole) ts (suffix (nesting depth) s (t ∷ ts) ts)
  unfolding suffix
  suffix_found start.Index operand t ts whole k h n =
      next (Inner depth (IsOf sort.Comma)) (Suffixed operand whole) ts ts (nested (nesting depth) sort.Comma ts) _ (inner sort.Comma ts)
      (λ e d. want_next (Suffixed operand whole) mark.CloseBracket e.1 ts _ (λ l. IsExpression e.0 ts l) d.0
      (λ c rest is x. let before : last_before (t ∷ ts) rest ≡ c.spot.at = last_known (passed (expression_passes x)) in
      (rw before (grammar.index h k x is), (n, d.1))))
  suffix_found start.Call operand t ts whole k h n =
      next (DeepIfAny depth) (Suffixed operand whole) ts ts (arguments (nesting depth) ts) _ (arguments_found ts)
      (λ es d. want_next (Suffixed operand whole) mark.CloseParenthesis es.1 ts _ (λ l. AreArgumentsIfAny es.0 ts l) d.0
      (λ c rest is x. (called (c ∷ rest) refl h k x is, (n, d.1))))
  suffix_found start.Increment operand t ts whole k h n =
      let before : last_before (t ∷ ts) ts ≡ t.spot.at = last_known here in (rw before (grammar.post_increment h k), n)
  suffix_found start.Decrement operand t ts whole k h n =
      let before : last_before (t ∷ ts) ts ≡ t.spot.at = last_known here in (rw before (grammar.post_decrement h k), n)

  suffixes_found : (n : ℕ) (operand : ExpressionTree) (ts whole : List Lexeme) → IsPostfix operand whole ts → Nests operand depth → Found (Deep depth IsPostfix) whole (suffixes n (nesting depth) operand ts)
  unfolding suffix_at
  suffixes_found zero operand ts whole h d = (h, d)
  suffixes_found (suc n) operand [] whole h d = (h, d)
  suffixes_found (suc n) operand (t ∷ ts) whole h d =
      suffix_front t ts (λ (o : Option (SuffixStart × List Lexeme)). Found (Deep depth IsPostfix) whole (option_map_or (λ a. suffix (nesting depth) a.0 (t ∷ ts) a.1 >>= λ s. suffixes n (nesting depth) (suffixed operand s.0) s.1) o (Ok (operand, t ∷ ts))))
      (λ s p k e. next (Suffixed operand whole) (Deep depth IsPostfix) ts whole (suffix (nesting depth) s (t ∷ ts) ts) _
      (suffix_found s operand t ts whole (subst (λ (q : Punctuator). IsPunctuator q t) (start_there p s e) k) h d)
      (λ x g. suffixes_found n (suffixed operand x.0) x.1 whole g.0 g.1))
      (h, d)

  postfix_found : (ts : List Lexeme) → Found (Deep depth IsPostfix) ts (postfix (nesting depth) ts)
  unfolding postfix
  postfix_found ts =
      next (Deep depth IsPrimary) (Deep depth IsPostfix) ts ts (primary (nesting depth) ts) _ (primary_found ts)
      (λ e d. suffixes_found (length e.1) e.0 e.1 ts (grammar.primary d.0) d.1)

  -- ---- operators before their operands

  -- an operator before an operand of its sort
  prefix_there : (p : Punctuator) (o : PrefixOperator) (t : Lexeme) (e : ExpressionTree) (ts rest : List Lexeme) → prefix_operator p ≡ Some o → IsPunctuator p t → IsOf (operand_of o) e ts rest → IsUnary (tree.Prefix t.spot o e) (t ∷ ts) rest
  unfolding prefix_operator
  prefix_there p o t e ts rest i k h = by p i k
    where
      Goal : PrefixOperator → Type 0
      Goal q = IsOf (operand_of q) e ts rest → IsUnary (tree.Prefix t.spot q e) (t ∷ ts) rest

      by : (q : Punctuator) → prefix_operator q ≡ Some o → IsPunctuator q t → IsUnary (tree.Prefix t.spot o e) (t ∷ ts) rest
      by punctuator.Ampersand j l = subst Goal (some_same j) (λ g. grammar.operator l grammar.address g) h
      by punctuator.Star j l = subst Goal (some_same j) (λ g. grammar.operator l grammar.indirection g) h
      by punctuator.Plus j l = subst Goal (some_same j) (λ g. grammar.operator l grammar.plus g) h
      by punctuator.Minus j l = subst Goal (some_same j) (λ g. grammar.operator l grammar.minus g) h
      by punctuator.Tilde j l = subst Goal (some_same j) (λ g. grammar.operator l grammar.complement g) h
      by punctuator.Exclamation j l = subst Goal (some_same j) (λ g. grammar.operator l grammar.not g) h
      by punctuator.Increment j l = subst Goal (some_same j) (λ g. grammar.increment l g) h
      by punctuator.Decrement j l = subst Goal (some_same j) (λ g. grammar.decrement l g) h
      by q j l = never j

  prefix_found : (p : Punctuator) (o : PrefixOperator) (t : Lexeme) (ts : List Lexeme) → prefix_operator p ≡ Some o → IsPunctuator p t → Found (Deep depth IsUnary) (t ∷ ts) (prefix (nesting depth) t.spot o ts)
  unfolding prefix
  prefix_found p o t ts i k =
      next (Inner depth (IsOf (operand_of o))) (Deep depth IsUnary) ts (t ∷ ts) (nested (nesting depth) (operand_of o) ts) _ (inner (operand_of o) ts)
      (λ e d. (prefix_there p o t e.0 ts e.1 i k d.0, d.1))

  sizeof_found : (t : Lexeme) (ts : List Lexeme) → IsKeyword keyword.Sizeof t → Found (Deep depth IsUnary) (t ∷ ts) (sizeof_expression (nesting depth) t.spot ts)
  unfolding sizeof_expression
  sizeof_found t ts k =
      next (Inner depth (IsOf sort.Unary)) (Deep depth IsUnary) ts (t ∷ ts) (nested (nesting depth) sort.Unary ts) _ (inner sort.Unary ts) (λ e d. (grammar.size_of_expression k d.0, d.1))

-- a size in brackets, or none
data IsSizeIfAny : Option ExpressionTree → List Lexeme → List Lexeme → Type 0 where
  no_size : {rest : List Lexeme} → IsSizeIfAny None rest rest
  sized : {opening closing : Lexeme} {e : ExpressionTree} {ts rest : List Lexeme} → IsPunctuator punctuator.OpenBracket opening → IsAssignment e ts (closing ∷ rest) → IsPunctuator punctuator.CloseBracket closing
      → IsSizeIfAny (Some e) (opening ∷ ts) rest

abbrev SizeNests : Option ExpressionTree → ℕ → Type 0
SizeNests None depth = Unit {0}
SizeNests (Some e) depth = Within depth (λ d. Nests e d)

abbrev Sizes : ℕ → Grammar (Option ExpressionTree)
Sizes depth o ts rest = IsSizeIfAny o ts rest × SizeNests o depth

size_found : (depth : ℕ) (ts : List Lexeme) → Goods depth → Found (Sizes depth) ts (array_size (nesting depth) ts)
unfolding array_size tokens_behind
size_found depth [] good = (no_size, tt)
size_found depth (t ∷ ts) good =
    behind_next (Sizes depth) mark.OpenBracket (t ∷ ts) (t ∷ ts) _ _ (λ l. l ≡ t ∷ ts) refl
    (λ u its k same. next (Inner depth (IsOf sort.Assignment)) (Sizes depth) its (t ∷ ts) (nested (nesting depth) sort.Assignment its) _ (nested_found depth sort.Assignment its good)
    (λ e d. want_next (Sizes depth) mark.CloseBracket e.1 (t ∷ ts) _ (λ l. IsAssignment e.0 its l) d.0
    (λ c rest is x. (subst (λ (l : List Lexeme). IsSizeIfAny (Some e.0) l rest) same (sized k x is), d.1))))
    (no_size, tt)

size_there : {t opening closing : Lexeme} {found : SpecifierList} {count : ℕ} {ts mid rest l : List Lexeme} (o : Option ExpressionTree) → l ≡ closing ∷ rest → IsKeyword keyword.Sizeof t → IsPunctuator punctuator.OpenParenthesis opening
    → Specify place.Object found ts mid → {more : List Lexeme} → AreStars count mid more → IsSizeIfAny o more l → IsPunctuator punctuator.CloseParenthesis closing
    → IsUnary (sizeof_tree (from_to t closing) (integer_type found) count o) (t ∷ opening ∷ ts) rest
size_there {t} {opening} {closing} {found} {count} {ts} {mid} {rest} {l} o same k p s n no_size c = grammar.size_of_type k p s (subst (λ (m : List Lexeme). AreStars count mid m) same n) c
size_there {t} {opening} {closing} {found} {count} {ts} {mid} {rest} {l} o same k p s n (sized {closing = end} {e = e} {ts = its} b a d) c =
    grammar.size_of_array k p s n b (subst (λ (m : List Lexeme). IsAssignment e its (end ∷ m)) same a) d c

size_passes : {o : Option ExpressionTree} {ts rest : List Lexeme} → IsSizeIfAny o ts rest → Passes ts rest
size_passes no_size = here
size_passes (sized b a d) = passed (step (assignment_passes a))

-- the size nests within two levels
sizeof_nests : (extent : Extent) (type : IntegerType) (count : ℕ) (o : Option ExpressionTree) (depth : ℕ) → SizeNests o depth → Nests (sizeof_tree extent type count o) (suc (suc depth))
sizeof_nests extent type count None depth h = tt
sizeof_nests extent type count (Some e) depth h = h

sizeof_type_found : (depth : ℕ) (t opening : Lexeme) (ts : List Lexeme) → Goods depth → IsKeyword keyword.Sizeof t → IsPunctuator punctuator.OpenParenthesis opening
    → Found (Deep depth IsUnary) (t ∷ opening ∷ ts) (sizeof_type (nesting depth) (t ∷ opening ∷ ts) (opening ∷ ts) ts)
unfolding sizeof_type nesting extent_before
sizeof_type_found zero t opening ts good k p = tt
sizeof_type_found (suc zero) t opening ts good k p = tt
sizeof_type_found (suc (suc depth)) t opening ts good k p =
    next (Specify place.Object) (Deep (suc (suc depth)) IsUnary) ts (t ∷ opening ∷ ts) (specifiers place.Object ts) _ (specifiers_found place.Object ts)
    (λ found s. next (Sizes depth) (Deep (suc (suc depth)) IsUnary) (stars found.1).1 (t ∷ opening ∷ ts) (array_size (nesting depth) (stars found.1).1) _ (size_found depth (stars found.1).1 good.1.1)
    (λ e d. want_next (Deep (suc (suc depth)) IsUnary) mark.CloseParenthesis e.1 (t ∷ opening ∷ ts) _ (λ l. IsSizeIfAny e.0 (stars found.1).1 l) d.0
    (λ c rest is x.
    let passes : Passes (t ∷ opening ∷ ts) (c ∷ rest) = passed (passed (join (specifiers_pass s.words) (join (stars_pass (stars_found found.1)) (size_passes x)))) in
    let before : last_before (t ∷ opening ∷ ts) rest ≡ c.spot.at = last_known passes in
    (rw before (size_there e.0 refl k p s (stars_found found.1) x is), sizeof_nests (record { first = t.spot; last = last_before (t ∷ opening ∷ ts) rest }) (integer_type found.0) (stars found.1).0 e.0 depth d.1))))

pub type_front : (t : Lexeme) (ts : List Lexeme) (P : Option (List Lexeme) → Type 0) → (IsPunctuator punctuator.OpenParenthesis t → names_type ts ≡ true → P (Some ts)) → P None → P (type_behind (t ∷ ts))
unfolding type_behind
type_front t ts P f n = by_test P (is_parenthesis t.kind && names_type ts) _ _ (λ e. let c = both_true (is_parenthesis t.kind) (names_type ts) e in f (parenthesis_there t.kind c.0) c.1) (λ _. n)
  where
    both_true : (a b : Bool) → a && b ≡ true → (a ≡ true) × (b ≡ true)
    both_true true true h = (refl, refl)
    both_true false b h = no h
    both_true true false h = no h

module _ (depth : ℕ) (good : Goods depth) where
  sizeof_any_found : (t : Lexeme) (ts : List Lexeme) → IsKeyword keyword.Sizeof t
      → Found (Deep depth IsUnary) (t ∷ ts) (option_map_or (sizeof_type (nesting depth) (t ∷ ts) ts) (type_behind ts) (sizeof_expression (nesting depth) t.spot ts))
  unfolding type_behind
  sizeof_any_found t [] k = sizeof_found depth good t [] k
  sizeof_any_found t (opening ∷ ts) k =
      type_front opening ts (λ (o : Option (List Lexeme)). Found (Deep depth IsUnary) (t ∷ opening ∷ ts) (option_map_or (sizeof_type (nesting depth) (t ∷ opening ∷ ts) (opening ∷ ts)) o (sizeof_expression (nesting depth) t.spot (opening ∷ ts))))
      (λ p _. sizeof_type_found depth t opening ts good k p)
      (sizeof_found depth good t (opening ∷ ts) k)

  postfix_there : (ts : List Lexeme) → Found (Deep depth IsUnary) ts (postfix (nesting depth) ts)
  postfix_there ts = seen (Deep depth IsPostfix) (Deep depth IsUnary) ts ts (postfix (nesting depth) ts) (λ e rest h. (grammar.postfix h.0, h.1)) (postfix_found depth good ts)

  unary_found_of : (w : Word) (t : Lexeme) (ts : List Lexeme) → t.kind ≡ w → Found (Deep depth IsUnary) (t ∷ ts) (unary_of (nesting depth) w t ts)
  unary_found_of (word.Keyword keyword.Sizeof) t ts k = sizeof_any_found t ts k
  unary_found_of (word.Punctuator p) t ts k = by_option (Found (Deep depth IsUnary) (t ∷ ts)) _ (prefix_operator p) _ (λ o i. prefix_found depth good p o t ts i k) (postfix_there (t ∷ ts))
  unary_found_of w t ts k = postfix_there (t ∷ ts)

  unary_found : (ts : List Lexeme) → Found (Deep depth IsUnary) ts (unary (nesting depth) ts)
  unfolding unary
  unary_found [] = postfix_there []
  unary_found (t ∷ ts) = unary_found_of t.kind t ts refl

-- ---- casts

type_name_found : (ts : List Lexeme) → Found IsTypeName ts (type_name ts)
unfolding type_name base_of integer_type
type_name_found ts =
    next (Specify place.Cast) IsTypeName ts ts (specifiers place.Cast ts) _ (specifiers_found place.Cast ts) (λ found s. by found.0 found.1 s found.0.is_void refl)
  where
    by : (found : SpecifierList) (mid : List Lexeme) → Specify place.Cast found ts mid → (b : Bool) → found.is_void ≡ b
        → IsTypeName (record { base = base_of found; stars = (pointed (base_of found) mid).0 }) ts (pointed (base_of found) mid).1
    by found mid s true e = rw e (nothing s e)
    by found mid s false e = rw e (integer s e (stars_found mid))

module _ (depth : ℕ) (good : Goods depth) where
  unary_there : (ts : List Lexeme) → Found (Deep depth IsCast) ts (unary (nesting depth) ts)
  unary_there ts = seen (Deep depth IsUnary) (Deep depth IsCast) ts ts (unary (nesting depth) ts) (λ e rest h. (grammar.unary h.0, h.1)) (unary_found depth good ts)

cast_there : (depth : ℕ) (t : Lexeme) (ts : List Lexeme) → Goods depth → IsPunctuator punctuator.OpenParenthesis t
    → Found (Deep depth IsCast) (t ∷ ts) (inside (nesting depth) true ts >>= λ _. type_name ts >>= λ n. want mark.CloseParenthesis n.1 >>= λ rest. nested (nesting depth) sort.Cast rest >>= λ e. Ok (tree.Cast t.spot n.0 e.0, e.1))
unfolding nesting
cast_there zero t ts good p = tt
cast_there (suc depth) t ts good p =
    next IsTypeName (Deep (suc depth) IsCast) ts (t ∷ ts) (type_name ts) _ (type_name_found ts)
    (λ n s. want_next (Deep (suc depth) IsCast) mark.CloseParenthesis n.1 (t ∷ ts) _ (λ l. IsTypeName n.0 ts l) s
    (λ c rest is x. next (Inner (suc depth) (IsOf sort.Cast)) (Deep (suc depth) IsCast) rest (t ∷ ts) (nested (nesting (suc depth)) sort.Cast rest) _ (nested_found (suc depth) sort.Cast rest good)
    (λ e d. (grammar.cast p x is d.0, d.1))))

module _ (depth : ℕ) (good : Goods depth) where
  cast_found : (ts : List Lexeme) → Found (Deep depth IsCast) ts (cast (nesting depth) ts)
  unfolding cast type_behind
  cast_found [] = unary_there depth good []
  cast_found (t ∷ ts) =
      type_front t ts (λ (o : Option (List Lexeme)). Found (Deep depth IsCast) (t ∷ ts)
      (option_map_or (λ its. inside (nesting depth) true its >>= λ _. type_name its >>= λ n. want mark.CloseParenthesis n.1 >>= λ rest. nested (nesting depth) sort.Cast rest >>= λ e. Ok (tree.Cast t.spot n.0 e.0, e.1))
      o (unary (nesting depth) (t ∷ ts))))
      (λ p _. cast_there depth t ts good p)
      (unary_there depth good (t ∷ ts))

-- ---- operators between operands

module _ (depth level : ℕ) (operand : Parser ExpressionTree) (good : (ts : List Lexeme) → Found (Deep depth (IsLevel level)) ts (operand ts)) where
  operations_found : (n : ℕ) (left : ExpressionTree) (ts whole : List Lexeme) → IsLevel (suc level) left whole ts → Nests left depth
      → Found (Deep depth (IsLevel (suc level))) whole (operations n (suc level) operand left ts)
  unfolding operator_at
  operations_found zero left ts whole h d = (h, d)
  operations_found (suc n) left [] whole h d = (h, d)
  operations_found (suc n) left (t ∷ ts) whole h d =
      operator_front t ts (suc level) (λ (o : Option (BinaryOperator × List Lexeme)). Found (Deep depth (IsLevel (suc level))) whole
      (option_map_or (λ o. operand o.1 >>= λ right. operations n (suc level) operand (tree.Binary o.0 left right.0) right.1) o (Ok (left, t ∷ ts))))
      (λ o p k i. next (Deep depth (IsLevel level)) (Deep depth (IsLevel (suc level))) ts whole (operand ts) _ (good ts)
      (λ right g. operations_found n (tree.Binary o left right.0) right.1 whole (grammar.operation h k i g.0) (d, g.1)))
      (h, d)

levels_found : (depth level : ℕ) (operand : Parser ExpressionTree) → ((ts : List Lexeme) → Found (Deep depth IsCast) ts (operand ts)) → (ts : List Lexeme) → Found (Deep depth (IsLevel level)) ts (levels level operand ts)
unfolding levels
levels_found depth zero operand good ts = seen (Deep depth IsCast) (Deep depth (IsLevel 0)) ts ts (operand ts) (λ e rest h. (grammar.lowest h.0, h.1)) (good ts)
levels_found depth (suc level) operand good ts =
    next (Deep depth (IsLevel level)) (Deep depth (IsLevel (suc level))) ts ts (levels level operand ts) _ (levels_found depth level operand good ts)
    (λ left d. operations_found depth level (levels level operand) (λ us. levels_found depth level operand good us) (length left.1) left.0 left.1 ts (grammar.below d.0) d.1)

-- ---- all sorts

module _ (depth : ℕ) (good : Goods depth) where
  pub conditional_found : (ts : List Lexeme) → Found (Deep depth IsConditional) ts (conditional (nesting depth) ts)
  unfolding conditional
  conditional_found ts =
      next (Deep depth (IsLevel 10)) (Deep depth IsConditional) ts ts (levels 10 (cast (nesting depth)) ts) _ (levels_found depth 10 (cast (nesting depth)) (λ us. cast_found depth good us) ts)
      (λ c d. behind_next (Deep depth IsConditional) mark.Question c.1 ts _ _ (λ l. IsLevel 10 c.0 ts l) d.0
      (λ q after k x. next (Inner depth (IsOf sort.Comma)) (Deep depth IsConditional) after ts (nested (nesting depth) sort.Comma after) _ (nested_found depth sort.Comma after good)
      (λ a g. want_next (Deep depth IsConditional) mark.Colon a.1 ts _ (λ l. IsExpression a.0 after l) g.0
      (λ u rest is y. next (Inner depth (IsOf sort.Conditional)) (Deep depth IsConditional) rest ts (nested (nesting depth) sort.Conditional rest) _ (nested_found depth sort.Conditional rest good)
      (λ b f. (grammar.choice x k y is f.0, (d.1, g.1, f.1))))))
      (grammar.level d.0, d.1))

  pub assignment_found : (ts : List Lexeme) → Found (Deep depth IsAssignment) ts (assignment (nesting depth) ts)
  unfolding assignment assignment_at
  assignment_found ts =
      next (Deep depth IsConditional) (Deep depth IsAssignment) ts ts (conditional (nesting depth) ts) _ (conditional_found ts) (λ target d. assigned target.0 target.1 d)
    where
      assigned : (target : ExpressionTree) (mid : List Lexeme) → Deep depth IsConditional target ts mid
          → Found (Deep depth IsAssignment) ts (option_map_or (λ o. nested (nesting depth) sort.Assignment o.1 >>= λ value. Ok (tree.Assignment o.0 target value.0, value.1)) (assignment_at mid) (Ok (target, mid)))
      assigned target [] d = (grammar.conditional d.0, d.1)
      assigned target (t ∷ mid) d =
          assignment_front t mid (λ (o : Option (AssignmentOperator × List Lexeme)). Found (Deep depth IsAssignment) ts
          (option_map_or (λ o. nested (nesting depth) sort.Assignment o.1 >>= λ value. Ok (tree.Assignment o.0 target value.0, value.1)) o (Ok (target, t ∷ mid))))
          (λ o p k i. next (Inner depth (IsOf sort.Assignment)) (Deep depth IsAssignment) mid ts (nested (nesting depth) sort.Assignment mid) _ (nested_found depth sort.Assignment mid good)
          (λ value g. (grammar.assigns d.0 k i g.0, (d.1, g.1))))
          (grammar.conditional d.0, d.1)

  more_found : (n : ℕ) (left : ExpressionTree) (ts whole : List Lexeme) → IsExpression left whole ts → Nests left depth → Found (Deep depth IsExpression) whole (more_commas n (nesting depth) left ts)
  more_found zero left ts whole h d = (h, d)
  more_found (suc n) left ts whole h d =
      behind_next (Deep depth IsExpression) mark.Comma ts whole _ _ (λ l. IsExpression left whole l) h
      (λ t after k x. next (Deep depth IsAssignment) (Deep depth IsExpression) after whole (assignment (nesting depth) after) _ (assignment_found after)
      (λ right g. more_found n (tree.Comma left right.0) right.1 whole (grammar.comma x k g.0) (d, g.1)))
      (h, d)

  pub comma_found : (ts : List Lexeme) → Found (Deep depth IsExpression) ts (comma (nesting depth) ts)
  unfolding comma
  comma_found ts =
      next (Deep depth IsAssignment) (Deep depth IsExpression) ts ts (assignment (nesting depth) ts) _ (assignment_found ts) (λ e d. more_found (length e.1) e.0 e.1 ts (grammar.assignment d.0) d.1)

  each_found : (s : Sort) (ts : List Lexeme) → Found (Deep depth (IsOf s)) ts (expression_of (nesting depth) s ts)
  each_found sort.Comma ts = comma_found ts
  each_found sort.Assignment ts = assignment_found ts
  each_found sort.Conditional ts = conditional_found ts
  each_found sort.Cast ts = cast_found depth good ts
  each_found sort.Unary ts = unary_found depth good ts

-- what is read at each depth is spelled
pub all_good : (depth : ℕ) → Goods depth
all_good zero = tt
all_good (suc depth) = ((λ s ts. each_found depth (all_good depth) s ts), all_good depth)
