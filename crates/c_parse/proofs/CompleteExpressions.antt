-- An expression that tokens spell is read from them, where it nests no deeper than it may and nothing that could go on with it stands behind it.
use Rattle.std.proofs.Common.{◌≡◌, ℕ, zero, suc, ◌<◌, ◌≤◌, true, false, List, [], ◌∷◌, ◌++◌, length, Option, Some, None, Result, Ok, refl, sym, ap, ◌∙◌, subst, arith}
use Rattle.std.specs.Prelude.{nat_eq}
use Rattle.std.proofs.lemmas.Bool.Decides.{nat_tests}
use Rattle.c_token.specs.declared.token.Constant.{Constant}
use Rattle.c_token.specs.declared.token.Keyword.TheVariants as keyword
use Rattle.c_token.specs.declared.token.Punctuator.{Punctuator}
use Rattle.c_token.specs.declared.token.Punctuator.TheVariants as punctuator
use Rattle.c_token.specs.Lexemes.{Lexeme, Word}
use Rattle.c_token.specs.Lexemes as word
use Rattle.c_tree.specs.declared.operator.BinaryOperator.{BinaryOperator}
use Rattle.c_tree.specs.declared.operator.AssignmentOperator.{AssignmentOperator}
use Rattle.c_tree.specs.declared.operator.PrefixOperator.{PrefixOperator}
use Rattle.c_tree.specs.declared.operator.PrefixOperator.TheVariants as prefix_operators
use Rattle.c_tree.specs.declared.types.TypeName.{TypeName}
use Rattle.c_tree.specs.Expressions.{ExpressionTree, SuffixTree, suffixed, Indexes, Calls, Increments, Decrements, chain_of_arguments}
use Rattle.c_tree.specs.Expressions as tree
use Rattle.c_parse_tokens.specs.declared.fault.Stuck.{Stuck}
use Rattle.c_parse_tokens.specs.declared.mark.Mark.TheVariants as mark
use Rattle.c_parse_tokens.specs.declared.specifier.Place.TheVariants as place
use Rattle.c_parse_tokens.specs.declared.specifier.SpecifierList.{SpecifierList}
use Rattle.c_parse_tokens.specs.Outcome.{◌>>=◌}
use Rattle.c_parse_tokens.specs.Front.{is, is_at, last_before, extent_before, separated}
use Rattle.c_parse_tokens.specs.Operators.{punctuator_of, binary_operator, operator_at, assignment_operator, assignment_at, prefix_operator}
use Rattle.c_parse_tokens.specs.Specifiers.{integer_type, base_of, is_parenthesis, names_type, type_behind, is_star, stars}
use Rattle.c_parse_expressions.specs.declared.expression.Sort.{Sort}
use Rattle.c_parse_expressions.specs.declared.expression.Sort.TheVariants as sort
use Rattle.c_parse_expressions.specs.declared.expression.SuffixStart.{SuffixStart}
use Rattle.c_parse_expressions.specs.declared.expression.SuffixStart.TheVariants as start
use Rattle.c_parse_expressions.specs.Expressions.{nested, constant_type, literals_at_front, primary_of, primary, arguments, suffix_start, suffix_at, suffix, suffixes, postfix, operand_of, prefix, sizeof_expression, array_size, sizeof_tree, sizeof_type, unary_of, unary, type_name, cast, operations, levels, conditional, assignment, more_commas, comma, expression_of, nesting}
use Rattle.c_parse.specs.Tokens.{IsPunctuator, IsKeyword, from_to}
use Rattle.c_parse.specs.Types.{Specify, IsTypeName, nothing, integer}
use Rattle.c_parse.specs.Expressions.{IsUnaryOperator, IsPrimary, IsPostfix, AreArguments, IsUnary, IsCast, IsLevel, IsConditional, IsAssignment, IsExpression}
use Rattle.c_parse.specs.Expressions as grammar
use Rattle.c_parse.proofs.Nesting.{Within, Nests, AllNest}
use Rattle.c_parse.proofs.Passing.{here, behind as passed, join, step, no_longer, last_known, literals_pass}
use Rattle.c_parse.proofs.ExpressionsPass.{specifiers_pass, stars_pass, arguments_pass, level_passes, assignment_passes, expression_passes}
use Rattle.c_parse.proofs.Binding.{rank, binding, binding_at, loose, operator_rank, assignment_rank, no_suffix, no_operator, no_assignment, no_question, no_comma, no_mark, no_literal, followed, there_is, there_is_none, at_mark, behind_mark, wanted, separated_step, separated_end}
use Rattle.c_parse.proofs.Fronts.{FirstLiteral, literals_go, operator_there, operand_cast, assignment_begins, unary_untyped, postfix_plain, no_end, keyword_at, specifiers_read, begins_with_type, star_at, stars_read, stars_no_keyword, punctuator_no_keyword}

-- ---- levels

-- with one level less
pub by_level : (P Q : ℕ → Type 0) (depth : ℕ) → Within depth Q → ((d : ℕ) → Q d → P (suc d)) → P depth
by_level P Q zero n f = elim n [ ]
by_level P Q (suc depth) n f = f depth n

pub nested_read : (depth : ℕ) (s : Sort) (e : ExpressionTree) (ts rest : List Lexeme) → Within depth (λ d. Nests e d) → ((d : ℕ) → Nests e d → expression_of (nesting d) s ts ≡ Ok (e, rest)) → nested (nesting depth) s ts ≡ Ok (e, rest)
unfolding nested nesting
nested_read zero s e ts rest n f = elim n [ ]
nested_read (suc depth) s e ts rest n f = f depth n

-- this is read, up to the rest
abbrev pub read : {A : Type 0} → A → List Lexeme → Result (A × List Lexeme) Stuck
read a rest = Ok (a, rest)

-- what is read is the same where its offset is
same_last : {A : Type 0} (f : ℕ → A) {n m : ℕ} {rest : List Lexeme} → n ≡ m → read (f n) rest ≡ read (f m) rest
same_last f {n} {m} {rest} e = ap (λ (l : ℕ). read (f l) rest) e

-- ---- primary expressions

literal_read : (depth : ℕ) (t last : Lexeme) (bytes : List ℕ) (ts rest : List Lexeme) → FirstLiteral (t ∷ ts) bytes rest → last_before (t ∷ ts) rest ≡ last.spot.at → 0 < binding_at rest
    → primary (nesting depth) (t ∷ ts) ≡ Ok (tree.Literal (from_to t last) bytes, rest)
unfolding primary extent_before
literal_read depth t last bytes ts rest h before b =
    let all : literals_at_front h.0 ts ≡ (bytes, rest) = h.2 ∙ no_literal bytes rest b in
    subst (λ (w : Word). primary_of (nesting depth) w t ts ≡ Ok (tree.Literal (from_to t last) bytes, rest)) (sym h.1)
    (subst (λ (x : List ℕ × List Lexeme). read (tree.Literal (record { first = t.spot; last = last_before (t ∷ ts) x.1 }) x.0) x.1 ≡ read (tree.Literal (from_to t last) bytes) rest) (sym all)
    (ap (λ (n : ℕ). read (tree.Literal (record { first = t.spot; last = n }) bytes) rest) before))

parenthesized_read : (depth : ℕ) (t c : Lexeme) (e : ExpressionTree) (ts rest : List Lexeme) → IsPunctuator punctuator.OpenParenthesis t → nested (nesting depth) sort.Comma ts ≡ Ok (e, c ∷ rest) → IsPunctuator punctuator.CloseParenthesis c
    → last_before (t ∷ ts) rest ≡ c.spot.at → primary (nesting depth) (t ∷ ts) ≡ Ok (tree.Parenthesized (from_to t c) e, rest)
unfolding primary extent_before
parenthesized_read depth t c e ts rest o r k before =
    subst (λ (w : Word). primary_of (nesting depth) w t ts ≡ Ok (tree.Parenthesized (from_to t c) e, rest)) (sym o)
    (followed _ r (followed _ (wanted mark.CloseParenthesis c rest k) (ap (λ (n : ℕ). read (tree.Parenthesized (record { first = t.spot; last = n }) e) rest) before)))

-- ---- suffixes

-- an operand with suffixes is read, and those behind it go on
abbrev PostfixGoes : ℕ → ExpressionTree → List Lexeme → List Lexeme → Type 0
PostfixGoes depth e ts rest = (m : ℕ) × (length rest ≤ m) × (postfix (nesting depth) ts ≡ suffixes m (nesting depth) e rest)

suffix_on : (depth : ℕ) (s : SuffixStart) (e : ExpressionTree) (x : SuffixTree) (t : Lexeme) (ts mid rest : List Lexeme) → PostfixGoes depth e ts (t ∷ mid) → suffix_at (t ∷ mid) ≡ Some (s, mid)
    → suffix (nesting depth) s (t ∷ mid) mid ≡ Ok (x, rest) → length rest ≤ length mid → PostfixGoes depth (suffixed e x) ts rest
suffix_on depth s e x t ts mid rest (zero, le, g) a r shorter = absurd (omega (arith, le))
suffix_on depth s e x t ts mid rest (suc m, le, g) a r shorter = (m, omega (arith, le, shorter), g ∙ there_is _ _ a (followed _ r refl))

postfix_end : (depth : ℕ) (e : ExpressionTree) (ts rest : List Lexeme) → PostfixGoes depth e ts rest → 1 < binding_at rest → postfix (nesting depth) ts ≡ Ok (e, rest)
postfix_end depth e ts rest (zero, le, g) b = g
postfix_end depth e ts rest (suc m, le, g) b = g ∙ there_is_none _ (no_suffix rest b) refl

suffix_begins : (t : Lexeme) (ts : List Lexeme) (p : Punctuator) (s : SuffixStart) → IsPunctuator p t → suffix_start p ≡ Some s → suffix_at (t ∷ ts) ≡ Some (s, ts)
unfolding suffix_at
suffix_begins t ts p s k e = there_is _ _ (ap punctuator_of k) (there_is _ _ e refl)

-- arguments are read, and those behind them go on
abbrev ArgumentsGo : ℕ → List ExpressionTree → List Lexeme → List Lexeme → Type 0
ArgumentsGo depth es ts rest =
    (m : ℕ) × (length rest ≤ m)
    × ((nested (nesting depth) sort.Assignment ts >>= λ e. separated (length e.1) (nested (nesting depth) sort.Assignment) (e.0 ∷ []) e.1) ≡ separated m (nested (nesting depth) sort.Assignment) es rest)

argument_on : (depth : ℕ) (es : List ExpressionTree) (e : ExpressionTree) (t : Lexeme) (ts mid rest : List Lexeme) → ArgumentsGo depth es ts (t ∷ mid) → IsPunctuator punctuator.Comma t
    → nested (nesting depth) sort.Assignment mid ≡ Ok (e, rest) → length rest ≤ length mid → ArgumentsGo depth (es ++ e ∷ []) ts rest
argument_on depth es e t ts mid rest (zero, le, g) k r shorter = absurd (omega (arith, le))
argument_on depth es e t ts mid rest (suc m, le, g) k r shorter = (m, omega (arith, le, shorter), g ∙ separated_step m (nested (nesting depth) sort.Assignment) es e t mid rest k r)

arguments_begin : {es : List ExpressionTree} {ts rest : List Lexeme} → AreArguments es ts rest → is_at mark.CloseParenthesis ts ≡ false
arguments_begin (grammar.one {ts = ts} e) = no_end mark.CloseParenthesis ts refl (assignment_begins e)
arguments_begin (grammar.more es k e) = arguments_begin es

arguments_end : (depth : ℕ) (es : List ExpressionTree) (ts rest : List Lexeme) → ArgumentsGo depth es ts rest → is_at mark.CloseParenthesis ts ≡ false → 14 < binding_at rest → arguments (nesting depth) ts ≡ Ok (es, rest)
unfolding arguments
arguments_end depth es ts rest (m, le, g) f b = rw f (g ∙ separated_end m (nested (nesting depth) sort.Assignment) es rest b)

nest_before : (es : List ExpressionTree) (e : ExpressionTree) (depth : ℕ) → AllNest (chain_of_arguments (es ++ e ∷ [])) depth → AllNest (chain_of_arguments es) depth × Within depth (λ d. Nests e d)
nest_before [] e depth h = (tt, h.0)
nest_before (x ∷ es) e depth h = let g = nest_before es e depth h.1 in ((h.0, g.0), g.1)

index_read : (depth : ℕ) (t c : Lexeme) (i : ExpressionTree) (mid rest : List Lexeme) → nested (nesting depth) sort.Comma mid ≡ Ok (i, c ∷ rest) → IsPunctuator punctuator.CloseBracket c → last_before (t ∷ mid) rest ≡ c.spot.at
    → suffix (nesting depth) start.Index (t ∷ mid) mid ≡ Ok (Indexes i c.spot.at, rest)
unfolding suffix
index_read depth t c i mid rest r k before = followed _ r (followed _ (wanted mark.CloseBracket c rest k) (same_last (λ n. Indexes i n) before))

call_read : (depth : ℕ) (t c : Lexeme) (es : List ExpressionTree) (mid rest : List Lexeme) → arguments (nesting depth) mid ≡ Ok (es, c ∷ rest) → IsPunctuator punctuator.CloseParenthesis c → last_before (t ∷ mid) rest ≡ c.spot.at
    → suffix (nesting depth) start.Call (t ∷ mid) mid ≡ Ok (Calls es c.spot.at, rest)
unfolding suffix
call_read depth t c es mid rest r k before = followed _ r (followed _ (wanted mark.CloseParenthesis c rest k) (same_last (λ n. Calls es n) before))

no_arguments : (depth : ℕ) (c : Lexeme) (rest : List Lexeme) → IsPunctuator punctuator.CloseParenthesis c → arguments (nesting depth) (c ∷ rest) ≡ Ok ([], c ∷ rest)
unfolding arguments is_at
no_arguments depth c rest k = let e = at_mark mark.CloseParenthesis c k in rw e refl

increment_read : (depth : ℕ) (t : Lexeme) (rest : List Lexeme) → suffix (nesting depth) start.Increment (t ∷ rest) rest ≡ Ok (Increments t.spot.at, rest)
unfolding suffix
increment_read depth t rest = same_last (λ n. Increments n) (last_known here)

decrement_read : (depth : ℕ) (t : Lexeme) (rest : List Lexeme) → suffix (nesting depth) start.Decrement (t ∷ rest) rest ≡ Ok (Decrements t.spot.at, rest)
unfolding suffix
decrement_read depth t rest = same_last (λ n. Decrements n) (last_known here)

-- ---- operators before their operands

prefix_read : (depth : ℕ) (t : Lexeme) (p : Punctuator) (o : PrefixOperator) (e : ExpressionTree) (ts rest : List Lexeme) → IsPunctuator p t → prefix_operator p ≡ Some o → nested (nesting depth) (operand_of o) ts ≡ Ok (e, rest)
    → unary (nesting depth) (t ∷ ts) ≡ Ok (tree.Prefix t.spot o e, rest)
unfolding unary prefix
prefix_read depth t p o e ts rest k i r =
    subst (λ (w : Word). unary_of (nesting depth) w t ts ≡ Ok (tree.Prefix t.spot o e, rest)) (sym k) (there_is _ _ i (followed _ r refl))

sizeof_read : (depth : ℕ) (t : Lexeme) (e : ExpressionTree) (ts rest : List Lexeme) → IsKeyword keyword.Sizeof t → type_behind ts ≡ None → nested (nesting depth) sort.Unary ts ≡ Ok (e, rest)
    → unary (nesting depth) (t ∷ ts) ≡ Ok (tree.SizeofExpression t.spot e, rest)
unfolding unary sizeof_expression
sizeof_read depth t e ts rest k n r =
    subst (λ (w : Word). unary_of (nesting depth) w t ts ≡ Ok (tree.SizeofExpression t.spot e, rest)) (sym k) (there_is_none _ n (followed _ r refl))

typed_behind : (t : Lexeme) (ts : List Lexeme) → IsPunctuator punctuator.OpenParenthesis t → names_type ts ≡ true → type_behind (t ∷ ts) ≡ Some ts
unfolding type_behind
typed_behind t ts k n = let e : is_parenthesis t.kind ≡ true = ap is_parenthesis k in rw (e, n) refl

-- `sizeof` of a type, up to its size
sizeof_type_read : (depth : ℕ) (t u c : Lexeme) (found : SpecifierList) (count : ℕ) (o : Option ExpressionTree) (ts mid its rest : List Lexeme) → IsKeyword keyword.Sizeof t → IsPunctuator punctuator.OpenParenthesis u
    → Specify place.Object found ts mid → keyword_at mid ≡ None → stars mid ≡ (count, its) → array_size (nesting depth) its ≡ Ok (o, c ∷ rest) → IsPunctuator punctuator.CloseParenthesis c → last_before (t ∷ u ∷ ts) rest ≡ c.spot.at
    → unary (nesting (suc (suc depth))) (t ∷ u ∷ ts) ≡ Ok (sizeof_tree (from_to t c) (integer_type found) count o, rest)
unfolding unary sizeof_type nesting extent_before
sizeof_type_read depth t u c found count o ts mid its rest k p s n m z e before =
    subst (λ (w : Word). unary_of (nesting (suc (suc depth))) w t (u ∷ ts) ≡ Ok (sizeof_tree (from_to t c) (integer_type found) count o, rest)) (sym k)
    (there_is _ _ (typed_behind u ts p (begins_with_type refl s))
    (followed _ (specifiers_read s n)
    (rw m
    (followed _ z (followed _ (wanted mark.CloseParenthesis c rest e) (ap (λ (l : ℕ). read (sizeof_tree (record { first = t.spot; last = l }) (integer_type found) count o) rest) before))))))

no_size_read : (depth : ℕ) (c : Lexeme) (rest : List Lexeme) → IsPunctuator punctuator.CloseParenthesis c → array_size (nesting depth) (c ∷ rest) ≡ Ok (None, c ∷ rest)
unfolding array_size is_at
no_size_read depth c rest k = there_is_none _ (no_mark mark.OpenBracket (c ∷ rest) (ap (is mark.OpenBracket) k)) refl

size_read : (depth : ℕ) (b d : Lexeme) (e : ExpressionTree) (its rest : List Lexeme) → IsPunctuator punctuator.OpenBracket b → nested (nesting depth) sort.Assignment its ≡ Ok (e, d ∷ rest) → IsPunctuator punctuator.CloseBracket d
    → array_size (nesting depth) (b ∷ its) ≡ Ok (Some e, rest)
unfolding array_size
size_read depth b d e its rest k r c = there_is _ _ (behind_mark mark.OpenBracket b its k) (followed _ r (followed _ (wanted mark.CloseBracket d rest c) refl))

-- ---- casts

pub type_name_read : {n : TypeName} {ts rest : List Lexeme} → IsTypeName n ts rest → keyword_at rest ≡ None → star_at rest ≡ false → type_name ts ≡ Ok (n, rest)
unfolding type_name base_of integer_type
type_name_read (nothing {found = found} {rest = rest} s v) k h = followed _ (specifiers_read s k) (rw v refl)
type_name_read (integer {found = found} {count = count} {mid = mid} {rest = rest} s v c) k h =
    followed _ (specifiers_read s (stars_no_keyword c k)) (let e = stars_read c h in rw (v, e) refl)

pub type_name_begins : {n : TypeName} {ts rest : List Lexeme} → IsTypeName n ts rest → names_type ts ≡ true
type_name_begins (nothing s v) = begins_with_type refl s
type_name_begins (integer s v c) = begins_with_type refl s

cast_read_typed : (depth : ℕ) (t c : Lexeme) (n : TypeName) (e : ExpressionTree) (ts mid rest : List Lexeme) → IsPunctuator punctuator.OpenParenthesis t → IsTypeName n ts (c ∷ mid) → IsPunctuator punctuator.CloseParenthesis c
    → nested (nesting (suc depth)) sort.Cast mid ≡ Ok (e, rest) → cast (nesting (suc depth)) (t ∷ ts) ≡ Ok (tree.Cast t.spot n e, rest)
unfolding cast nesting
cast_read_typed depth t c n e ts mid rest p s k r =
    there_is _ _ (typed_behind t ts p (type_name_begins s))
    (followed _ (type_name_read s (punctuator_no_keyword c mid k) (ap is_star k)) (followed _ (wanted mark.CloseParenthesis c mid k) (followed _ r refl)))

-- ---- operators between operands

-- operators of a level are read, and those behind them go on
abbrev LevelGoes : ℕ → ℕ → ExpressionTree → List Lexeme → List Lexeme → Type 0
LevelGoes depth zero e ts rest = levels 0 (cast (nesting depth)) ts ≡ Ok (e, rest)
LevelGoes depth (suc level) e ts rest = (m : ℕ) × (length rest ≤ m) × (levels (suc level) (cast (nesting depth)) ts ≡ operations m (suc level) (levels level (cast (nesting depth))) e rest)

-- what may stand behind, where operators of the level may go on
abbrev MayGoOn : ℕ → ℕ → Type 0
MayGoOn zero b = 1 < b
MayGoOn (suc level) b = suc level < b

may_go_on : (level b : ℕ) → suc level < b → MayGoOn level b
may_go_on zero b h = h
may_go_on (suc level) b h = omega (arith, h)

level_end : (depth level : ℕ) (e : ExpressionTree) (ts rest : List Lexeme) → LevelGoes depth level e ts rest → suc level < binding_at rest → levels level (cast (nesting depth)) ts ≡ Ok (e, rest)
level_end depth zero e ts rest g b = g
level_end depth (suc level) e ts rest (zero, le, g) b = g
level_end depth (suc level) e ts rest (suc m, le, g) b = g ∙ there_is_none _ (no_operator (suc level) rest b) refl

level_begun : (depth level : ℕ) (e : ExpressionTree) (ts rest : List Lexeme) → levels level (cast (nesting depth)) ts ≡ Ok (e, rest) → LevelGoes depth (suc level) e ts rest
unfolding levels
level_begun depth level e ts rest r = (length rest, omega arith, followed _ r refl)

operator_begins : (level : ℕ) (t : Lexeme) (ts : List Lexeme) (p : Punctuator) (o : BinaryOperator) → IsPunctuator p t → binary_operator p ≡ Some (level, o) → operator_at level (t ∷ ts) ≡ Some (o, ts)
unfolding operator_at
operator_begins level t ts p o k e = there_is _ _ (ap punctuator_of k) (there_is _ _ e (let i : nat_eq level level ≡ true = same level in rw i refl))
  where
    same : (n : ℕ) → nat_eq n n ≡ true
    same n = grind (arith, nat_tests)

level_on : (depth level : ℕ) (o : BinaryOperator) (left right : ExpressionTree) (t : Lexeme) (ts mid rest : List Lexeme) → LevelGoes depth (suc level) left ts (t ∷ mid) → operator_at (suc level) (t ∷ mid) ≡ Some (o, mid)
    → levels level (cast (nesting depth)) mid ≡ Ok (right, rest) → length rest ≤ length mid → LevelGoes depth (suc level) (tree.Binary o left right) ts rest
level_on depth level o left right t ts mid rest (zero, le, g) a r shorter = absurd (omega (arith, le))
level_on depth level o left right t ts mid rest (suc m, le, g) a r shorter = (m, omega (arith, le, shorter), g ∙ there_is _ _ a (followed _ r refl))

-- ---- conditional expressions, assignments, commas

conditional_end : (depth : ℕ) (e : ExpressionTree) (ts rest : List Lexeme) → levels 10 (cast (nesting depth)) ts ≡ Ok (e, rest) → 12 < binding_at rest → conditional (nesting depth) ts ≡ Ok (e, rest)
unfolding conditional
conditional_end depth e ts rest r b = followed _ r (there_is_none _ (no_question rest b) refl)

choice_read : (depth : ℕ) (t u : Lexeme) (c a b : ExpressionTree) (ts its more rest : List Lexeme) → levels 10 (cast (nesting depth)) ts ≡ Ok (c, t ∷ its) → IsPunctuator punctuator.Question t
    → nested (nesting depth) sort.Comma its ≡ Ok (a, u ∷ more) → IsPunctuator punctuator.Colon u → nested (nesting depth) sort.Conditional more ≡ Ok (b, rest) → conditional (nesting depth) ts ≡ Ok (tree.Conditional c a b, rest)
unfolding conditional
choice_read depth t u c a b ts its more rest r q s k z =
    followed _ r (there_is _ _ (behind_mark mark.Question t its q) (followed _ s (followed _ (wanted mark.Colon u more k) (followed _ z refl))))

assignment_end : (depth : ℕ) (e : ExpressionTree) (ts rest : List Lexeme) → conditional (nesting depth) ts ≡ Ok (e, rest) → 13 < binding_at rest → assignment (nesting depth) ts ≡ Ok (e, rest)
unfolding assignment
assignment_end depth e ts rest r b = followed _ r (there_is_none _ (no_assignment rest b) refl)

assigns_read : (depth : ℕ) (t : Lexeme) (p : Punctuator) (o : AssignmentOperator) (target value : ExpressionTree) (ts mid rest : List Lexeme) → conditional (nesting depth) ts ≡ Ok (target, t ∷ mid) → IsPunctuator p t → assignment_operator p ≡ Some o
    → nested (nesting depth) sort.Assignment mid ≡ Ok (value, rest) → assignment (nesting depth) ts ≡ Ok (tree.Assignment o target value, rest)
unfolding assignment assignment_at
assigns_read depth t p o target value ts mid rest r k i z =
    followed _ r (there_is _ _ (there_is _ _ (ap punctuator_of k) (there_is _ _ i refl)) (followed _ z refl))

-- expressions with commas are read, and those behind them go on
abbrev CommasGo : ℕ → ExpressionTree → List Lexeme → List Lexeme → Type 0
CommasGo depth e ts rest = (m : ℕ) × (length rest ≤ m) × (comma (nesting depth) ts ≡ more_commas m (nesting depth) e rest)

commas_begun : (depth : ℕ) (e : ExpressionTree) (ts rest : List Lexeme) → assignment (nesting depth) ts ≡ Ok (e, rest) → CommasGo depth e ts rest
unfolding comma
commas_begun depth e ts rest r = (length rest, omega arith, followed _ r refl)

commas_on : (depth : ℕ) (left right : ExpressionTree) (t : Lexeme) (ts mid rest : List Lexeme) → CommasGo depth left ts (t ∷ mid) → IsPunctuator punctuator.Comma t → assignment (nesting depth) mid ≡ Ok (right, rest) → length rest ≤ length mid
    → CommasGo depth (tree.Comma left right) ts rest
commas_on depth left right t ts mid rest (zero, le, g) k r shorter = absurd (omega (arith, le))
commas_on depth left right t ts mid rest (suc m, le, g) k r shorter = (m, omega (arith, le, shorter), g ∙ there_is _ _ (behind_mark mark.Comma t mid k) (followed _ r refl))

pub commas_end : (depth : ℕ) (e : ExpressionTree) (ts rest : List Lexeme) → CommasGo depth e ts rest → 14 < binding_at rest → comma (nesting depth) ts ≡ Ok (e, rest)
commas_end depth e ts rest (zero, le, g) b = g
commas_end depth e ts rest (suc m, le, g) b = g ∙ there_is_none _ (no_comma rest b) refl

-- a closing token does not go on
closes : (t : Lexeme) (ts : List Lexeme) {p : Punctuator} → IsPunctuator p t → rank p ≡ 15 → 14 < binding_at (t ∷ ts)
closes t ts {p} k r = let e : binding_at (t ∷ ts) ≡ 15 = ap binding k ∙ r in omega (arith, e)

closes_some : (t : Lexeme) (ts : List Lexeme) {p : Punctuator} → IsPunctuator p t → rank p ≡ 15 → 13 < binding_at (t ∷ ts)
closes_some t ts {p} k r = let e : binding_at (t ∷ ts) ≡ 15 = ap binding k ∙ r in omega (arith, e)

operator_loose : (t : Lexeme) (ts : List Lexeme) (p : Punctuator) (level : ℕ) (o : BinaryOperator) → IsPunctuator p t → binary_operator p ≡ Some (suc level, o) → suc level < binding_at (t ∷ ts)
operator_loose t ts p level o k i = let e : binding_at (t ∷ ts) ≡ suc (suc level) = ap binding k ∙ operator_rank p (suc level, o) i in omega (arith, e)

assigns_loose : (t : Lexeme) (ts : List Lexeme) (p : Punctuator) (o : AssignmentOperator) → IsPunctuator p t → assignment_operator p ≡ Some o → 12 < binding_at (t ∷ ts)
assigns_loose t ts p o k i = let e : binding_at (t ∷ ts) ≡ 13 = ap binding k ∙ assignment_rank p o i in omega (arith, e)

name_read : (depth : ℕ) (t : Lexeme) (n : List ℕ) (rest : List Lexeme) → t.kind ≡ word.Name n → primary (nesting depth) (t ∷ rest) ≡ Ok (tree.Name (record { name = n; spot = t.spot }), rest)
unfolding primary
name_read depth t n rest k = subst (λ (w : Word). primary_of (nesting depth) w t rest ≡ Ok (tree.Name (record { name = n; spot = t.spot }), rest)) (sym k) refl

constant_read : (depth : ℕ) (t : Lexeme) (c : Constant) (rest : List Lexeme) → t.kind ≡ word.Constant c → primary (nesting depth) (t ∷ rest) ≡ Ok (tree.Constant t.spot c.value (constant_type c.is_long c.is_unsigned), rest)
unfolding primary
constant_read depth t c rest k = subst (λ (w : Word). primary_of (nesting depth) w t rest ≡ Ok (tree.Constant t.spot c.value (constant_type c.is_long c.is_unsigned), rest)) (sym k) refl

postfix_begun : (depth : ℕ) (e : ExpressionTree) (ts rest : List Lexeme) → primary (nesting depth) ts ≡ Ok (e, rest) → PostfixGoes depth e ts rest
unfolding postfix
postfix_begun depth e ts rest r = (length rest, omega arith, followed _ r refl)

bracket_begins : suffix_start punctuator.OpenBracket ≡ Some start.Index
unfolding suffix_start
bracket_begins = refl

parenthesis_begins : suffix_start punctuator.OpenParenthesis ≡ Some start.Call
unfolding suffix_start
parenthesis_begins = refl

increment_begins : suffix_start punctuator.Increment ≡ Some start.Increment
unfolding suffix_start
increment_begins = refl

decrement_begins : suffix_start punctuator.Decrement ≡ Some start.Decrement
unfolding suffix_start
decrement_begins = refl

increment_before : prefix_operator punctuator.Increment ≡ Some prefix_operators.Increment
unfolding prefix_operator
increment_before = refl

decrement_before : prefix_operator punctuator.Decrement ≡ Some prefix_operators.Decrement
unfolding prefix_operator
decrement_before = refl

unary_cast : (depth : ℕ) (e : ExpressionTree) (ts rest : List Lexeme) → type_behind ts ≡ None → unary (nesting depth) ts ≡ Ok (e, rest) → cast (nesting depth) ts ≡ Ok (e, rest)
unfolding cast
unary_cast depth e ts rest n r = there_is_none _ n r

lowest_level : (depth : ℕ) (e : ExpressionTree) (ts rest : List Lexeme) → cast (nesting depth) ts ≡ Ok (e, rest) → LevelGoes depth zero e ts rest
unfolding levels
lowest_level depth e ts rest r = r

mutual
  pub primary_read : {e : ExpressionTree} {ts rest : List Lexeme} → IsPrimary e ts rest → (depth : ℕ) → Nests e depth → 0 < binding_at rest → primary (nesting depth) ts ≡ Ok (e, rest)
  primary_read (grammar.name {t = t} {n = n} {rest = rest} k) depth d b = name_read depth t n rest k
  primary_read (grammar.constant {t = t} {c = c} {rest = rest} k) depth d b = constant_read depth t c rest k
  primary_read (grammar.literals {t = t} {last = last} {bytes = bytes} {ts = ts} {rest = rest} l) depth d b =
      literal_read depth t last bytes ts rest (literals_go l) (last_known (literals_pass l)) b
  primary_read (grammar.parenthesized {opening = t} {closing = c} {e = e} {ts = ts} {rest = rest} o x k) depth d b =
      parenthesized_read depth t c e ts rest o (nested_read depth sort.Comma e ts (c ∷ rest) d (λ n f. commas_end n e ts (c ∷ rest) (expression_goes x n f (closes_some c rest k refl)) (closes c rest k refl))) k (last_known (passed (expression_passes x)))

  pub postfix_goes : {e : ExpressionTree} {ts rest : List Lexeme} → IsPostfix e ts rest → (depth : ℕ) → Nests e depth → 0 < binding_at rest → PostfixGoes depth e ts rest
  postfix_goes (grammar.primary {e = e} {ts = ts} {rest = rest} p) depth d b = postfix_begun depth e ts rest (primary_read p depth d b)
  postfix_goes (grammar.index {opening = t} {closing = c} {e = e} {i = i} {ts = ts} {mid = mid} {rest = rest} x o y k) depth d b =
      suffix_on depth start.Index e (Indexes i c.spot.at) t ts mid rest (postfix_goes x depth d.0 (loose t mid 0 o (omega arith))) (suffix_begins t mid punctuator.OpenBracket start.Index o bracket_begins)
      (index_read depth t c i mid rest (nested_read depth sort.Comma i mid (c ∷ rest) d.1 (λ n f. commas_end n i mid (c ∷ rest) (expression_goes y n f (closes_some c rest k refl)) (closes c rest k refl))) k (last_known (passed (expression_passes y))))
      (no_longer (step (expression_passes y)))
  postfix_goes (grammar.call {opening = t} {closing = c} {e = e} {es = es} {ts = ts} {mid = mid} {rest = rest} x o y k) depth d b =
      suffix_on depth start.Call e (Calls es c.spot.at) t ts mid rest (postfix_goes x depth d.0 (loose t mid 0 o (omega arith))) (suffix_begins t mid punctuator.OpenParenthesis start.Call o parenthesis_begins)
      (call_read depth t c es mid rest (arguments_end depth es mid (c ∷ rest) (arguments_go y depth d.1 (closes_some c rest k refl)) (arguments_begin y) (closes c rest k refl)) k (last_known (passed (arguments_pass y))))
      (no_longer (step (arguments_pass y)))
  postfix_goes (grammar.call_of_none {opening = t} {closing = c} {e = e} {ts = ts} {rest = rest} x o k) depth d b =
      suffix_on depth start.Call e (Calls [] c.spot.at) t ts (c ∷ rest) rest (postfix_goes x depth d.0 (loose t (c ∷ rest) 0 o (omega arith))) (suffix_begins t (c ∷ rest) punctuator.OpenParenthesis start.Call o parenthesis_begins)
      (call_read depth t c [] (c ∷ rest) rest (no_arguments depth c rest k) k (last_known (passed here)))
      (omega arith)
  postfix_goes (grammar.post_increment {t = t} {e = e} {ts = ts} {rest = rest} x k) depth d b =
      suffix_on depth start.Increment e (Increments t.spot.at) t ts rest rest (postfix_goes x depth d (loose t rest 0 k (omega arith))) (suffix_begins t rest punctuator.Increment start.Increment k increment_begins)
      (increment_read depth t rest) (omega arith)
  postfix_goes (grammar.post_decrement {t = t} {e = e} {ts = ts} {rest = rest} x k) depth d b =
      suffix_on depth start.Decrement e (Decrements t.spot.at) t ts rest rest (postfix_goes x depth d (loose t rest 0 k (omega arith))) (suffix_begins t rest punctuator.Decrement start.Decrement k decrement_begins)
      (decrement_read depth t rest) (omega arith)

  pub arguments_go : {es : List ExpressionTree} {ts rest : List Lexeme} → AreArguments es ts rest → (depth : ℕ) → AllNest (chain_of_arguments es) depth → 13 < binding_at rest → ArgumentsGo depth es ts rest
  arguments_go (grammar.one {e = e} {ts = ts} {rest = rest} x) depth d b =
      (length rest, omega arith, followed _ (nested_read depth sort.Assignment e ts rest d.0 (λ n f. assignment_read x n f b)) refl)
  arguments_go (grammar.more {t = t} {es = es} {e = e} {ts = ts} {mid = mid} {rest = rest} xs k x) depth d b =
      let n = nest_before es e depth d in
      argument_on depth es e t ts mid rest (arguments_go xs depth n.0 (loose t mid 13 k (omega arith))) k (nested_read depth sort.Assignment e mid rest n.1 (λ m f. assignment_read x m f b)) (no_longer (assignment_passes x))

  pub unary_read : {e : ExpressionTree} {ts rest : List Lexeme} → IsUnary e ts rest → (depth : ℕ) → Nests e depth → 1 < binding_at rest → unary (nesting depth) ts ≡ Ok (e, rest)
  unary_read (grammar.postfix {e = e} {ts = ts} {rest = rest} x) depth d b = postfix_plain (nesting depth) x ∙ postfix_end depth e ts rest (postfix_goes x depth d (omega (arith, b))) b
  unary_read (grammar.increment {t = t} {e = e} {ts = ts} {rest = rest} k x) depth d b =
      prefix_read depth t punctuator.Increment prefix_operators.Increment e ts rest k increment_before (nested_read depth sort.Unary e ts rest d (λ n f. unary_read x n f b))
  unary_read (grammar.decrement {t = t} {e = e} {ts = ts} {rest = rest} k x) depth d b =
      prefix_read depth t punctuator.Decrement prefix_operators.Decrement e ts rest k decrement_before (nested_read depth sort.Unary e ts rest d (λ n f. unary_read x n f b))
  unary_read (grammar.operator {t = t} {o = o} {p = p} {e = e} {ts = ts} {rest = rest} k i x) depth d b =
      prefix_read depth t p o e ts rest k (operator_there i)
      (subst (λ (s : Sort). nested (nesting depth) s ts ≡ Ok (e, rest)) (sym (operand_cast i)) (nested_read depth sort.Cast e ts rest d (λ n f. cast_read x n f b)))
  unary_read (grammar.size_of_expression {t = t} {e = e} {ts = ts} {rest = rest} k x) depth d b =
      sizeof_read depth t e ts rest k (unary_untyped x) (nested_read depth sort.Unary e ts rest d (λ n f. unary_read x n f b))
  unary_read (grammar.size_of_type {t = t} {opening = u} {closing = c} {found = found} {count = count} {ts = ts} {mid = mid} {rest = rest} k o s n e) depth d b =
      by_level (λ l. unary (nesting l) (t ∷ u ∷ ts) ≡ Ok (tree.SizeofType (from_to t c) (integer_type found) count, rest)) (λ l. Within l (λ _. Unit {0})) depth d
      (λ l f. by_level (λ m. unary (nesting (suc m)) (t ∷ u ∷ ts) ≡ Ok (tree.SizeofType (from_to t c) (integer_type found) count, rest)) (λ _. Unit {0}) l f
      (λ m _. sizeof_type_read m t u c found count None ts mid (c ∷ rest) rest k o s (stars_no_keyword n (punctuator_no_keyword c rest e)) (stars_read n (ap is_star e)) (no_size_read m c rest e) e
      (last_known (passed (passed (join (specifiers_pass s.words) (stars_pass n)))))))
  unary_read (grammar.size_of_array {t = t} {opening = u} {begin = v} {end = w} {closing = c} {found = found} {count = count} {e = e} {ts = ts} {mid = mid} {its = its} {rest = rest} k o s n i x j z) depth d b =
      by_level (λ l. unary (nesting l) (t ∷ u ∷ ts) ≡ Ok (tree.SizeofArray (from_to t c) (integer_type found) count e, rest)) (λ l. Within l (λ f. Within f (λ g. Nests e g))) depth d
      (λ l f. by_level (λ m. unary (nesting (suc m)) (t ∷ u ∷ ts) ≡ Ok (tree.SizeofArray (from_to t c) (integer_type found) count e, rest)) (λ f. Within f (λ g. Nests e g)) l f
      (λ m g. sizeof_type_read m t u c found count (Some e) ts mid (v ∷ its) rest k o s (stars_no_keyword n (punctuator_no_keyword v its i)) (stars_read n (ap is_star i))
      (size_read m v w e its (c ∷ rest) i (nested_read m sort.Assignment e its (w ∷ c ∷ rest) g (λ q f. assignment_read x q f (closes_some w (c ∷ rest) j refl))) j) z
      (last_known (passed (passed (join (specifiers_pass s.words) (join (stars_pass n) (passed (step (assignment_passes x))))))))))

  pub cast_read : {e : ExpressionTree} {ts rest : List Lexeme} → IsCast e ts rest → (depth : ℕ) → Nests e depth → 1 < binding_at rest → cast (nesting depth) ts ≡ Ok (e, rest)
  cast_read (grammar.unary {e = e} {ts = ts} {rest = rest} x) depth d b = unary_cast depth e ts rest (unary_untyped x) (unary_read x depth d b)
  cast_read (grammar.cast {opening = t} {closing = c} {n = n} {e = e} {ts = ts} {mid = mid} {rest = rest} o s k x) depth d b =
      by_level (λ l. cast (nesting l) (t ∷ ts) ≡ Ok (tree.Cast t.spot n e, rest)) (λ l. Nests e l) depth d
      (λ l f. cast_read_typed l t c n e ts mid rest o s k (nested_read (suc l) sort.Cast e mid rest f (λ m g. cast_read x m g b)))

  pub level_goes : {level : ℕ} {e : ExpressionTree} {ts rest : List Lexeme} → IsLevel level e ts rest → (depth : ℕ) → Nests e depth → MayGoOn level (binding_at rest) → LevelGoes depth level e ts rest
  level_goes (grammar.lowest {e = e} {ts = ts} {rest = rest} x) depth d b = lowest_level depth e ts rest (cast_read x depth d b)
  level_goes (grammar.below {level = level} {e = e} {ts = ts} {rest = rest} x) depth d b = level_begun depth level e ts rest (level_end depth level e ts rest (level_goes x depth d (may_go_on level (binding_at rest) b)) b)
  level_goes (grammar.operation {level = level} {t = t} {p = p} {o = o} {left = left} {right = right} {ts = ts} {mid = mid} {rest = rest} x k i y) depth d b =
      level_on depth level o left right t ts mid rest (level_goes x depth d.0 (operator_loose t mid p level o k i)) (operator_begins (suc level) t mid p o k i)
      (level_end depth level right mid rest (level_goes y depth d.1 (may_go_on level (binding_at rest) b)) b) (no_longer (level_passes y))

  pub conditional_read : {e : ExpressionTree} {ts rest : List Lexeme} → IsConditional e ts rest → (depth : ℕ) → Nests e depth → 12 < binding_at rest → conditional (nesting depth) ts ≡ Ok (e, rest)
  conditional_read (grammar.level {e = e} {ts = ts} {rest = rest} x) depth d b =
      conditional_end depth e ts rest (level_end depth 10 e ts rest (level_goes x depth d (omega (arith, b))) (omega (arith, b))) b
  conditional_read (grammar.choice {t = t} {u = u} {c = c} {a = a} {b = v} {ts = ts} {its = its} {more = more} {rest = rest} x q y k z) depth d b =
      choice_read depth t u c a v ts its more rest (level_end depth 10 c ts (t ∷ its) (level_goes x depth d.0 (loose t its 10 q (omega arith))) (loose t its 11 q (omega arith))) q
      (nested_read depth sort.Comma a its (u ∷ more) d.1 (λ n f. commas_end n a its (u ∷ more) (expression_goes y n f (closes_some u more k refl)) (closes u more k refl))) k
      (nested_read depth sort.Conditional v more rest d.2 (λ n f. conditional_read z n f b))

  pub assignment_read : {e : ExpressionTree} {ts rest : List Lexeme} → IsAssignment e ts rest → (depth : ℕ) → Nests e depth → 13 < binding_at rest → assignment (nesting depth) ts ≡ Ok (e, rest)
  assignment_read (grammar.conditional {e = e} {ts = ts} {rest = rest} x) depth d b = assignment_end depth e ts rest (conditional_read x depth d (omega (arith, b))) b
  assignment_read (grammar.assigns {t = t} {p = p} {o = o} {target = target} {value = value} {ts = ts} {mid = mid} {rest = rest} x k i y) depth d b =
      assigns_read depth t p o target value ts mid rest (conditional_read x depth d.0 (assigns_loose t mid p o k i)) k i (nested_read depth sort.Assignment value mid rest d.1 (λ n f. assignment_read y n f b))

  pub expression_goes : {e : ExpressionTree} {ts rest : List Lexeme} → IsExpression e ts rest → (depth : ℕ) → Nests e depth → 13 < binding_at rest → CommasGo depth e ts rest
  expression_goes (grammar.assignment {e = e} {ts = ts} {rest = rest} x) depth d b = commas_begun depth e ts rest (assignment_read x depth d b)
  expression_goes (grammar.comma {t = t} {left = left} {right = right} {ts = ts} {mid = mid} {rest = rest} x k y) depth d b =
      commas_on depth left right t ts mid rest (expression_goes x depth d.0 (loose t mid 13 k (omega arith))) k (assignment_read y depth d.1 b) (no_longer (assignment_passes y))

-- An expression that tokens spell is read from them, where no token that goes on with it stands behind it.
pub expression_read : {e : ExpressionTree} {ts rest : List Lexeme} → IsExpression e ts rest → (depth : ℕ) → Nests e depth → 14 < binding_at rest → comma (nesting depth) ts ≡ Ok (e, rest)
expression_read {e} {ts} {rest} x depth d b = commas_end depth e ts rest (expression_goes x depth d (omega (arith, b))) b
