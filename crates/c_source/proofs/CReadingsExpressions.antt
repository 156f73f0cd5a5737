-- What is read as an expression stands in its tokens in order, and its constants are numbers of their types.
use Rattle.std.proofs.Common.{◌≡◌, ℕ, zero, suc, Bool, true, List, [], ◌∷◌, ◌++◌, length, Option, Some, None, Result, refl, ap, subst}
use Rattle.debug_records.specs.declared.source.Spot.{Spot}
use Rattle.c_token.specs.declared.token.Keyword.TheVariants as keyword
use Rattle.c_token.specs.declared.token.Punctuator.TheVariants as punctuator
use Rattle.c_token.specs.Lexemes.{Lexeme, Word}
use Rattle.c_token.specs.Lexemes as word
use Rattle.c_tree.specs.declared.operator.PrefixOperator.{PrefixOperator}
use Rattle.c_tree.specs.declared.types.Base.{Base}
use Rattle.c_tree.specs.declared.types.Base.TheVariants as base
use Rattle.c_tree.specs.declared.types.IntegerType.{IntegerType}
use Rattle.c_tree.specs.Expressions.{ExpressionTree, SuffixTree, suffixed, Indexes, Calls, Increments, Decrements, chain_of_arguments}
use Rattle.c_tree.specs.Expressions as tree
use Rattle.c_parse_tokens.specs.declared.fault.Stuck.{Stuck}
use Rattle.c_parse_tokens.specs.declared.mark.Mark.TheVariants as mark
use Rattle.c_parse_tokens.specs.declared.specifier.Place.TheVariants as place
use Rattle.c_parse_tokens.specs.Outcome.{Parser, ◌>>=◌}
use Rattle.c_parse_tokens.specs.Front.{inside, is_at, tokens_behind, last_before, extent_before}
use Rattle.c_parse_tokens.specs.Operators.{punctuator_of, operator_at, assignment_at, prefix_operator}
use Rattle.c_parse_tokens.specs.Specifiers.{specifiers, integer_type, base_of, type_behind, stars}
use Rattle.c_parse_expressions.specs.declared.expression.Sort.{Sort}
use Rattle.c_parse_expressions.specs.declared.expression.Sort.TheVariants as sort
use Rattle.c_parse_expressions.specs.declared.expression.SuffixStart.{SuffixStart}
use Rattle.c_parse_expressions.specs.declared.expression.SuffixStart.TheVariants as start
use Rattle.c_parse_expressions.specs.Expressions.{Nesting, nested, literal_of, literals_at_front, primary_of, primary, arguments, suffix_start, suffix_at, suffix, suffixes, postfix, operand_of, prefix, sizeof_expression, array_size, sizeof_tree, sizeof_type, unary_of, unary, pointed, type_name, cast, operations, levels, conditional, assignment, more_commas, comma, expression_of, nesting}
use Rattle.c_type_laws.specs.Statics.{are_bytes}
use Rattle.c_source.specs.Constants.{HasNumbers, HaveNumbers}
use Rattle.c_source.specs.Formed.{HasNumbersIfAny}
use Rattle.c_source.specs.TextOrder.{spots_of, spots_of_all, spots_if_any}
use Rattle.c_source.specs.Tokens.{IsSound, AreSound}
use Rattle.c_source.specs.Standing.{Stand, none, passed, told, Shape, Found, plain, spots_of_many, AreAllFormed, many}
use Rattle.c_source.specs.Trees.{expressions, argument_lists, optional_expressions, suffix_shape}
use Rattle.c_source.proofs.Bytes.{by_test, by_option, bytes_join}
use Rattle.c_source.proofs.Standing.{join, trail, silent, next, seen, LeadsTo, option_next, pair_next, only_one}
use Rattle.c_source.proofs.Fronts.{behind_leads, type_leads, want_next, operator_leads, assignment_leads, specifiers_found, Passes, stars_pass, separated_found}

-- what may nest finds expressions
abbrev pub AreGood : Nesting → Type 0
AreGood [] = Unit {0}
AreGood (level ∷ levels) = ((s : Sort) (ts : List Lexeme) → AreSound ts → Found expressions ts (level s ts)) × AreGood levels

pub nested_found : (nest : Nesting) (s : Sort) (ts : List Lexeme) → AreGood nest → AreSound ts → Found expressions ts (nested nest s ts)
unfolding nested
nested_found [] s ts g h = tt
nested_found (level ∷ levels) s ts g h = g.0 s ts h

pub inside_next : {B : Type 0} (T : Shape B) (nest : Nesting) (is_taken : Bool) (ts whole : List Lexeme) (f : Nesting → Result (B × List Lexeme) Stuck) → AreGood nest
    → ((levels : Nesting) → AreGood levels → Found T whole (f levels)) → Found T whole (inside nest is_taken ts >>= f)
inside_next T [] is_taken ts whole f g k = tt
inside_next T (level ∷ levels) is_taken ts whole f g k = k levels g.1

-- ---- literals

-- bytes are read, and tokens passed
abbrev Joins : List Lexeme → List ℕ × List Lexeme → Type 0
Joins whole x = (are_bytes x.0 ≡ true) × Stand [] whole x.1 × AreSound x.1

literal_sound : (w : Word) → IsSound w → (o : Option (List ℕ)) → literal_of w ≡ o → (part : List ℕ) → o ≡ Some part → are_bytes part ≡ true
literal_sound (word.Literal bytes) h o e part is = let same : bytes ≡ part = cc in subst (λ (l : List ℕ). are_bytes l ≡ true) same h
literal_sound (word.Name name) h o e part is = absurd cc
literal_sound (word.Keyword k) h o e part is = absurd cc
literal_sound (word.Constant c) h o e part is = absurd cc
literal_sound (word.Punctuator p) h o e part is = absurd cc
literal_sound (word.Include i) h o e part is = absurd cc

literals_join : (bytes : List ℕ) (ts whole : List Lexeme) → are_bytes bytes ≡ true → Stand [] whole ts → AreSound ts → Joins whole (literals_at_front bytes ts)
literals_join bytes [] whole b s h = (b, s, h)
literals_join bytes (t ∷ ts) whole b s h =
    by_option (Joins whole) _ (literal_of t.kind) _
    (λ part e. literals_join (bytes ++ part) ts whole (bytes_join bytes part b (literal_sound t.kind h.0 _ refl part e)) (trail s (passed t none)) h.1)
    (b, s, h)

module _ (nest : Nesting) (good : AreGood nest) where
  -- ---- primary expressions

  primary_found_of : (w : Word) (t : Lexeme) (ts : List Lexeme) → IsSound w → AreSound ts → Found expressions (t ∷ ts) (primary_of nest w t ts)
  unfolding extent_before
  primary_found_of (word.Name name) t ts h g = (told t none, tt, g)
  primary_found_of (word.Constant c) t ts h g = (told t none, h, g)
  primary_found_of (word.Literal bytes) t ts h g = let l = literals_join bytes ts ts h none g in (told t l.1, l.0, l.2)
  primary_found_of (word.Punctuator punctuator.OpenParenthesis) t ts h g =
      next expressions expressions ts (t ∷ ts) (nested nest sort.Comma ts) _ (nested_found nest sort.Comma ts good g)
      (λ e s f u. want_next expressions mark.CloseParenthesis e.1 (t ∷ ts) _ u (λ rest r v. (told t (trail s (silent r)), f, v)))
  primary_found_of w t ts h g = tt

  primary_found : (ts : List Lexeme) → AreSound ts → Found expressions ts (primary nest ts)
  unfolding primary
  primary_found [] h = tt
  primary_found (t ∷ ts) h = primary_found_of t.kind t ts h.0 h.1

  -- ---- suffixes

  as_arguments : (es : List ExpressionTree) → spots_of_many expressions es ≡ spots_of_all (chain_of_arguments es)
  as_arguments [] = refl
  as_arguments (e ∷ es) = ap (λ (l : List Spot). spots_of e ++ l) (as_arguments es)

  have_numbers : (es : List ExpressionTree) → AreAllFormed expressions es → HaveNumbers (chain_of_arguments es)
  have_numbers [] h = tt
  have_numbers (e ∷ es) h = (h.0, have_numbers es h.1)

  arguments_found : (ts : List Lexeme) → AreSound ts → Found argument_lists ts (arguments nest ts)
  unfolding arguments
  arguments_found ts h =
      by_test (Found argument_lists ts) (is_at mark.CloseParenthesis ts) _ _ (λ _. (none, tt, h))
      (λ _. seen (many expressions) argument_lists ts _ as_arguments have_numbers
      (next expressions (many expressions) ts ts (nested nest sort.Assignment ts) _ (nested_found nest sort.Assignment ts good h)
      (λ e s f u. separated_found expressions (length e.1) (nested nest sort.Assignment) (λ us v. nested_found nest sort.Assignment us good v) (e.0 ∷ []) e.1 ts (only_one expressions e.0 ts e.1 s) (f, tt) u)))

  suffix_leads : (ts : List Lexeme) → AreSound ts → LeadsTo ts (suffix_at ts)
  unfolding suffix_at
  suffix_leads [] h = tt
  suffix_leads (t ∷ ts) h = by_option (LeadsTo (t ∷ ts)) _ (punctuator_of t.kind) _ (λ p _. by_option (LeadsTo (t ∷ ts)) _ (suffix_start p) _ (λ o _. (passed t none, h.1)) tt) tt

  suffix_found : (b : SuffixStart) (whole ts : List Lexeme) → AreSound ts → Found suffix_shape ts (suffix nest b whole ts)
  unfolding suffix
  suffix_found start.Index whole ts h =
      next expressions suffix_shape ts ts (nested nest sort.Comma ts) _ (nested_found nest sort.Comma ts good h)
      (λ e s f u. want_next suffix_shape mark.CloseBracket e.1 ts _ u (λ rest r v. (trail s (silent r), f, v)))
  suffix_found start.Call whole ts h =
      next argument_lists suffix_shape ts ts (arguments nest ts) _ (arguments_found ts h)
      (λ e s f u. want_next suffix_shape mark.CloseParenthesis e.1 ts _ u (λ rest r v. (trail s (silent r), f, v)))
  suffix_found start.Increment whole ts h = (none, tt, h)
  suffix_found start.Decrement whole ts h = (none, tt, h)

  with_suffix : (e : ExpressionTree) (x : SuffixTree) (whole ts rest : List Lexeme) → Stand (spots_of e) whole ts → Stand (suffix_shape.spots x) ts rest → Stand (spots_of (suffixed e x)) whole rest
  with_suffix e (Indexes i last) whole ts rest s r = join s r
  with_suffix e (Calls all last) whole ts rest s r = join s r
  with_suffix e (Increments last) whole ts rest s r = trail s r
  with_suffix e (Decrements last) whole ts rest s r = trail s r

  formed_suffix : (e : ExpressionTree) (x : SuffixTree) → HasNumbers e → suffix_shape.formed x → HasNumbers (suffixed e x)
  formed_suffix e (Indexes i last) h g = (h, g)
  formed_suffix e (Calls all last) h g = (h, g)
  formed_suffix e (Increments last) h g = h
  formed_suffix e (Decrements last) h g = h

  suffixes_found : (n : ℕ) (operand : ExpressionTree) (ts whole : List Lexeme) → Stand (spots_of operand) whole ts → HasNumbers operand → AreSound ts → Found expressions whole (suffixes n nest operand ts)
  suffixes_found zero operand ts whole s f h = (s, f, h)
  suffixes_found (suc n) operand ts whole s f h =
      pair_next expressions ts whole (suffix_at ts) _ _ (suffix_leads ts h)
      (λ a r u. next suffix_shape expressions a.1 whole (suffix nest a.0 ts a.1) _ (suffix_found a.0 ts a.1 u)
      (λ x q g v. suffixes_found n (suffixed operand x.0) x.1 whole (with_suffix operand x.0 whole a.1 x.1 (trail s r) q) (formed_suffix operand x.0 f g) v))
      (s, f, h)

  postfix_found : (ts : List Lexeme) → AreSound ts → Found expressions ts (postfix nest ts)
  unfolding postfix
  postfix_found ts h = next expressions expressions ts ts (primary nest ts) _ (primary_found ts h) (λ e s f u. suffixes_found (length e.1) e.0 e.1 ts s f u)

  -- ---- operators before their operands

  prefix_found : (t : Lexeme) (o : PrefixOperator) (ts : List Lexeme) → AreSound ts → Found expressions (t ∷ ts) (prefix nest t.spot o ts)
  unfolding prefix
  prefix_found t o ts h = next expressions expressions ts (t ∷ ts) (nested nest (operand_of o) ts) _ (nested_found nest (operand_of o) ts good h) (λ e s f u. (told t s, f, u))

  sizeof_found : (t : Lexeme) (ts : List Lexeme) → AreSound ts → Found expressions (t ∷ ts) (sizeof_expression nest t.spot ts)
  unfolding sizeof_expression
  sizeof_found t ts h = next expressions expressions ts (t ∷ ts) (nested nest sort.Unary ts) _ (nested_found nest sort.Unary ts good h) (λ e s f u. (told t s, f, u))

size_found : (nest : Nesting) (ts : List Lexeme) → AreGood nest → AreSound ts → Found optional_expressions ts (array_size nest ts)
unfolding array_size
size_found nest ts good h =
    option_next optional_expressions ts ts (tokens_behind mark.OpenBracket ts) _ _ (behind_leads mark.OpenBracket ts h)
    (λ its r u. next expressions optional_expressions its ts (nested nest sort.Assignment its) _ (nested_found nest sort.Assignment its good u)
    (λ e s f v. want_next optional_expressions mark.CloseBracket e.1 ts _ v (λ rest q w. (join (silent r) (trail s (silent q)), f, w))))
    (none, tt, h)

sizeof_there : (t : Lexeme) (last : ℕ) (type : IntegerType) (count : ℕ) (o : Option ExpressionTree) (ts rest : List Lexeme) → Stand (spots_if_any o) ts rest → HasNumbersIfAny o → AreSound rest
    → Stand (spots_of (sizeof_tree (record { first = t.spot; last = last }) type count o)) (t ∷ ts) rest × HasNumbers (sizeof_tree (record { first = t.spot; last = last }) type count o) × AreSound rest
sizeof_there t last type count None ts rest s f h = (told t s, tt, h)
sizeof_there t last type count (Some e) ts rest s f h = (told t s, f, h)

module _ (nest : Nesting) (good : AreGood nest) where
  sizeof_type_found : (t : Lexeme) (ts its : List Lexeme) → Stand [] ts its → AreSound its → Found expressions (t ∷ ts) (sizeof_type nest (t ∷ ts) ts its)
  unfolding sizeof_type extent_before
  sizeof_type_found t ts its s h =
      inside_next expressions nest true ts (t ∷ ts) _ good
      (λ around ga. inside_next expressions around _ its (t ∷ ts) _ ga
      (λ within gw. next plain expressions its (t ∷ ts) (specifiers place.Object its) _ (specifiers_found place.Object its h)
      (λ found r f u. let p = stars_pass found.1 u in
      next optional_expressions expressions (stars found.1).1 (t ∷ ts) (array_size within (stars found.1).1) _ (size_found within (stars found.1).1 gw p.1)
      (λ e q g v. want_next expressions mark.CloseParenthesis e.1 (t ∷ ts) _ v
      (λ rest z w. sizeof_there t (last_before (t ∷ ts) rest) (integer_type found.0) (stars found.1).0 e.0 ts rest (join s (join r (join p.0 (trail q (silent z))))) g w)))))

  unary_found_of : (w : Word) (t : Lexeme) (ts : List Lexeme) → AreSound (t ∷ ts) → Found expressions (t ∷ ts) (unary_of nest w t ts)
  unary_found_of (word.Keyword keyword.Sizeof) t ts h =
      option_next expressions ts (t ∷ ts) (type_behind ts) _ _ (type_leads ts h.1) (λ its r u. sizeof_type_found t ts its (silent r) u) (sizeof_found nest good t ts h.1)
  unary_found_of (word.Punctuator p) t ts h = by_option (Found expressions (t ∷ ts)) _ (prefix_operator p) _ (λ o _. prefix_found nest good t o ts h.1) (postfix_found nest good (t ∷ ts) h)
  unary_found_of w t ts h = postfix_found nest good (t ∷ ts) h

  unary_found : (ts : List Lexeme) → AreSound ts → Found expressions ts (unary nest ts)
  unfolding unary
  unary_found [] h = postfix_found nest good [] h
  unary_found (t ∷ ts) h = unary_found_of t.kind t ts h

-- ---- casts

pointed_pass : (b : Base) (ts : List Lexeme) → AreSound ts → Passes ts (pointed b ts).1
pointed_pass base.Void ts h = (none, h)
pointed_pass (base.Integer t) ts h = stars_pass ts h

type_name_found : (ts : List Lexeme) → AreSound ts → Found plain ts (type_name ts)
unfolding type_name
type_name_found ts h =
    next plain plain ts ts (specifiers place.Cast ts) _ (specifiers_found place.Cast ts h)
    (λ found r f u. let p = pointed_pass (base_of found.0) found.1 u in (trail r p.0, tt, p.1))

module _ (nest : Nesting) (good : AreGood nest) where
  cast_found : (ts : List Lexeme) → AreSound ts → Found expressions ts (cast nest ts)
  unfolding cast
  cast_found ts h =
      option_next expressions ts ts (type_behind ts) _ _ (type_leads ts h)
      (λ its r u. inside_next expressions nest true its ts _ good
      (λ _ _. next plain expressions its ts (type_name its) _ (type_name_found its u)
      (λ n s f v. want_next expressions mark.CloseParenthesis n.1 ts _ v
      (λ rest z w. next expressions expressions rest ts (nested nest sort.Cast rest) _ (nested_found nest sort.Cast rest good w)
      (λ e q g x. (join (trail (trail r s) (silent z)) q, g, x))))))
      (unary_found nest good ts h)

-- ---- operators between operands

module _ (level : ℕ) (operand : Parser ExpressionTree) (good : (ts : List Lexeme) → AreSound ts → Found expressions ts (operand ts)) where
  operations_found : (n : ℕ) (left : ExpressionTree) (ts whole : List Lexeme) → Stand (spots_of left) whole ts → HasNumbers left → AreSound ts → Found expressions whole (operations n level operand left ts)
  operations_found zero left ts whole s f h = (s, f, h)
  operations_found (suc n) left ts whole s f h =
      pair_next expressions ts whole (operator_at level ts) _ _ (operator_leads level ts h)
      (λ o r u. next expressions expressions o.1 whole (operand o.1) _ (good o.1 u)
      (λ right q g v. operations_found n (tree.Binary o.0 left right.0) right.1 whole (join (trail s r) q) (f, g) v))
      (s, f, h)

levels_found : (level : ℕ) (operand : Parser ExpressionTree) → ((ts : List Lexeme) → AreSound ts → Found expressions ts (operand ts)) → (ts : List Lexeme) → AreSound ts → Found expressions ts (levels level operand ts)
unfolding levels
levels_found zero operand good ts h = good ts h
levels_found (suc level) operand good ts h =
    next expressions expressions ts ts (levels level operand ts) _ (levels_found level operand good ts h)
    (λ left s f u. operations_found (suc level) (levels level operand) (λ us v. levels_found level operand good us v) (length left.1) left.0 left.1 ts s f u)

-- ---- all sorts

module _ (nest : Nesting) (good : AreGood nest) where
  pub conditional_found : (ts : List Lexeme) → AreSound ts → Found expressions ts (conditional nest ts)
  unfolding conditional
  conditional_found ts h =
      next expressions expressions ts ts (levels 10 (cast nest) ts) _ (levels_found 10 (cast nest) (λ us v. cast_found nest good us v) ts h)
      (λ c s f u. option_next expressions c.1 ts (tokens_behind mark.Question c.1) _ _ (behind_leads mark.Question c.1 u)
      (λ after r v. next expressions expressions after ts (nested nest sort.Comma after) _ (nested_found nest sort.Comma after good v)
      (λ a q g w. want_next expressions mark.Colon a.1 ts _ w
      (λ rest z x. next expressions expressions rest ts (nested nest sort.Conditional rest) _ (nested_found nest sort.Conditional rest good x)
      (λ b p k y. (join (join (trail s (silent r)) (trail q (silent z))) p, (f, g, k), y)))))
      (s, f, u))

  pub assignment_found : (ts : List Lexeme) → AreSound ts → Found expressions ts (assignment nest ts)
  unfolding assignment
  assignment_found ts h =
      next expressions expressions ts ts (conditional nest ts) _ (conditional_found ts h)
      (λ target s f u. pair_next expressions target.1 ts (assignment_at target.1) _ _ (assignment_leads target.1 u)
      (λ o r v. next expressions expressions o.1 ts (nested nest sort.Assignment o.1) _ (nested_found nest sort.Assignment o.1 good v)
      (λ value q g w. (join (trail s r) q, (f, g), w)))
      (s, f, u))

  more_found : (n : ℕ) (left : ExpressionTree) (ts whole : List Lexeme) → Stand (spots_of left) whole ts → HasNumbers left → AreSound ts → Found expressions whole (more_commas n nest left ts)
  more_found zero left ts whole s f h = (s, f, h)
  more_found (suc n) left ts whole s f h =
      option_next expressions ts whole (tokens_behind mark.Comma ts) _ _ (behind_leads mark.Comma ts h)
      (λ after r u. next expressions expressions after whole (assignment nest after) _ (assignment_found after u)
      (λ right q g v. more_found n (tree.Comma left right.0) right.1 whole (join (trail s (silent r)) q) (f, g) v))
      (s, f, h)

  pub comma_found : (ts : List Lexeme) → AreSound ts → Found expressions ts (comma nest ts)
  unfolding comma
  comma_found ts h = next expressions expressions ts ts (assignment nest ts) _ (assignment_found ts h) (λ e s f u. more_found (length e.1) e.0 e.1 ts s f u)

  each_found : (s : Sort) (ts : List Lexeme) → AreSound ts → Found expressions ts (expression_of nest s ts)
  each_found sort.Comma ts h = comma_found ts h
  each_found sort.Assignment ts h = assignment_found ts h
  each_found sort.Conditional ts h = conditional_found ts h
  each_found sort.Cast ts h = cast_found nest good ts h
  each_found sort.Unary ts h = unary_found nest good ts h

pub nesting_good : (depth : ℕ) → AreGood (nesting depth)
unfolding nesting
nesting_good zero = tt
nesting_good (suc depth) = ((λ s ts h. each_found (nesting depth) (nesting_good depth) s ts h), nesting_good depth)
