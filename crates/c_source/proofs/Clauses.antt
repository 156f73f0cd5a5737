-- What is read as a part of a statement that holds no statement stands in its tokens in order, and is formed.
use Rattle.std.proofs.Common.{◌≡◌, ℕ, zero, suc, false, List, [], ◌∷◌, ◌++◌, Option, Some, None, Result, Ok, Err, refl}
use Rattle.std.specs.Option.{option_map_or}
use Rattle.c_token.specs.declared.token.Keyword.TheVariants as keyword
use Rattle.c_token.specs.Lexemes.{Lexeme, Word}
use Rattle.c_token.specs.Lexemes as word
use Rattle.c_tree.specs.Expressions.{ExpressionTree}
use Rattle.c_tree.specs.Statements.{LabelTree}
use Rattle.c_parse_tokens.specs.declared.fault.Stuck.{Stuck}
use Rattle.c_parse_tokens.specs.declared.mark.Mark.{Mark}
use Rattle.c_parse_tokens.specs.declared.mark.Mark.TheVariants as mark
use Rattle.c_parse_tokens.specs.Outcome.{◌>>=◌}
use Rattle.c_parse_tokens.specs.Front.{stuck, is_at, tokens_behind, want, extent_before}
use Rattle.c_parse_tokens.specs.Specifiers.{begins_type}
use Rattle.c_parse_expressions.specs.declared.expression.Sort.TheVariants as sort
use Rattle.c_parse_expressions.specs.Expressions.{Nesting, nested, conditional, comma, nesting}
use Rattle.c_parse_statements.specs.Declarations.{declaration}
use Rattle.c_parse_statements.specs.Clauses.{condition, optional, start_of, for_start, for_header, expression_statement, return_statement, label_of, label, labels}
use Rattle.c_source.specs.Formed.{HasNumbersIfAny, IsStartFormed}
use Rattle.c_source.specs.TextOrder.{spots_if_any, spots_of_start}
use Rattle.c_source.specs.Tokens.{AreSound}
use Rattle.c_source.specs.Standing.{Stand, none, told, Shape, Found, spots_of_many, AreAllFormed, many}
use Rattle.c_source.specs.Trees.{expressions, optional_expressions, declarations, starts, headers, label_shape, statements}
use Rattle.c_source.proofs.Bytes.{by_test}
use Rattle.c_source.proofs.Standing.{join, trail, silent, same_spots, next, Leads, one_more, formed_on}
use Rattle.c_source.proofs.Fronts.{behind_leads, want_next}
use Rattle.c_source.proofs.CReadingsExpressions.{AreGood, nested_found, conditional_found, comma_found, nesting_good}
use Rattle.c_source.proofs.Declarations.{declaration_found}

pub condition_found : (nest : Nesting) (ts : List Lexeme) → AreGood nest → AreSound ts → Found expressions ts (condition nest ts)
unfolding condition
condition_found nest ts good h =
    want_next expressions mark.OpenParenthesis ts ts _ h
    (λ its r u. next expressions expressions its ts (nested nest sort.Comma its) _ (nested_found nest sort.Comma its good u)
    (λ e s f v. want_next expressions mark.CloseParenthesis e.1 ts _ v (λ rest q w. (join (silent r) (trail s (silent q)), f, w))))

optional_found : (nest : Nesting) (end : Mark) (ts : List Lexeme) → AreGood nest → AreSound ts → Found optional_expressions ts (optional nest end ts)
unfolding optional
optional_found nest end ts good h =
    by_test (Found optional_expressions ts) (is_at end ts) _ _ (λ _. (none, tt, h))
    (λ _. next expressions optional_expressions ts ts (comma nest ts) _ (comma_found nest good ts h) (λ e s f u. (s, f, u)))

start_spots : (o : Option ExpressionTree) → spots_if_any o ≡ spots_of_start (start_of o)
start_spots None = refl
start_spots (Some e) = refl

start_formed : (o : Option ExpressionTree) → HasNumbersIfAny o → IsStartFormed (start_of o)
start_formed None h = tt
start_formed (Some e) h = h

start_found : (depth : ℕ) (ts : List Lexeme) → AreSound ts → Found starts ts (for_start depth ts)
unfolding for_start
start_found depth ts h =
    by_test (Found starts ts) (begins_type ts) _ _
    (λ _. next declarations starts ts ts (declaration depth ts) _ (declaration_found depth ts h) (λ d s f u. (s, f, u)))
    (λ _. next optional_expressions starts ts ts (optional (nesting depth) mark.Semicolon ts) _ (optional_found (nesting depth) mark.Semicolon ts (nesting_good depth) h)
    (λ e s f u. want_next starts mark.Semicolon e.1 ts _ u (λ rest q v. (same_spots (start_spots e.0) (trail s (silent q)), start_formed e.0 f, v))))

pub header_found : (depth : ℕ) (ts : List Lexeme) → AreSound ts → Found headers ts (for_header depth ts)
unfolding for_header
header_found depth ts h =
    next starts headers ts ts (for_start depth ts) _ (start_found depth ts h)
    (λ start s f u. next optional_expressions headers start.1 ts (optional (nesting depth) mark.Semicolon start.1) _ (optional_found (nesting depth) mark.Semicolon start.1 (nesting_good depth) u)
    (λ c r g v. want_next headers mark.Semicolon c.1 ts _ v
    (λ rest q w. next optional_expressions headers rest ts (optional (nesting depth) mark.CloseParenthesis rest) _ (optional_found (nesting depth) mark.CloseParenthesis rest (nesting_good depth) w)
    (λ step p k x. (join (join s (trail r (silent q))) p, (f, g, k), x)))))

-- the tokens behind a mark
abbrev PassedTo : List Lexeme → Result (List Lexeme) Stuck → Type 0
PassedTo ts (Ok rest) = Stand [] ts rest × AreSound rest
PassedTo ts (Err s) = Unit {0}

colon_passes : (ts : List Lexeme) → AreSound ts → PassedTo ts (want mark.Colon ts)
unfolding want
colon_passes ts h = by (tokens_behind mark.Colon ts) (behind_leads mark.Colon ts h)
  where
    by : (o : Option (List Lexeme)) → Leads ts o → PassedTo ts (option_map_or (λ rest. Ok rest) o (Err (stuck ts)))
    by None l = tt
    by (Some rest) l = (silent l.0, l.1)

module _ (nest : Nesting) (good : AreGood nest) where
  pub expression_statement_found : (ts : List Lexeme) → AreSound ts → Found (statements false) ts (expression_statement nest ts)
  unfolding expression_statement
  expression_statement_found ts h =
      next expressions (statements false) ts ts (comma nest ts) _ (comma_found nest good ts h)
      (λ e s f u. want_next (statements false) mark.Semicolon e.1 ts _ u (λ rest q v. (trail s (silent q), (f, λ _. refl), v)))

  pub return_found : (t : Lexeme) (ts : List Lexeme) → AreSound ts → Found (statements false) (t ∷ ts) (return_statement nest (t ∷ ts) ts)
  unfolding return_statement extent_before
  return_found t ts h =
      next optional_expressions (statements false) ts (t ∷ ts) (optional nest mark.Semicolon ts) _ (optional_found nest mark.Semicolon ts good h)
      (λ e s f u. want_next (statements false) mark.Semicolon e.1 (t ∷ ts) _ u (λ rest q v. (told t (trail s (silent q)), (f, λ _. refl), v)))

  -- ---- labels

  -- a label, if one is read
  abbrev FoundLabel : List Lexeme → Result (Option (LabelTree × List Lexeme)) Stuck → Type 0
  FoundLabel ts (Ok None) = Unit {0}
  FoundLabel ts (Ok (Some x)) = Stand (label_shape.spots x.0) ts x.1 × label_shape.formed x.0 × AreSound x.1
  FoundLabel ts (Err s) = Unit {0}

  case_next : {A : Type 0} (S : Shape A) (ts whole : List Lexeme) (r : Result (A × List Lexeme) Stuck) (f : A × List Lexeme → Result (Option (LabelTree × List Lexeme)) Stuck) → Found S ts r
      → ((x : A × List Lexeme) → Stand (S.spots x.0) ts x.1 → S.formed x.0 → AreSound x.1 → FoundLabel whole (f x)) → FoundLabel whole (r >>= f)
  case_next S ts whole (Ok x) f h k = k x h.0 h.1 h.2
  case_next S ts whole (Err s) f h k = tt

  colon_next : (ts whole : List Lexeme) (f : List Lexeme → Result (Option (LabelTree × List Lexeme)) Stuck) → AreSound ts
      → ((rest : List Lexeme) → Stand [] ts rest → AreSound rest → FoundLabel whole (f rest)) → FoundLabel whole (want mark.Colon ts >>= f)
  colon_next ts whole f h k = by (want mark.Colon ts) (colon_passes ts h)
    where
      by : (r : Result (List Lexeme) Stuck) → PassedTo ts r → FoundLabel whole (r >>= f)
      by (Ok rest) p = k rest p.0 p.1
      by (Err s) p = tt

  label_found_of : (w : Word) (t : Lexeme) (ts : List Lexeme) → AreSound ts → FoundLabel (t ∷ ts) (label_of nest w t ts)
  unfolding extent_before
  label_found_of (word.Keyword keyword.Case) t ts h =
      case_next expressions ts (t ∷ ts) (conditional nest ts) _ (conditional_found nest good ts h) (λ e s f u. colon_next e.1 (t ∷ ts) _ u (λ rest q v. (told t (trail s q), f, v)))
  label_found_of (word.Keyword keyword.Default) t ts h = colon_next ts (t ∷ ts) _ h (λ rest q v. (told t q, tt, v))
  label_found_of w t ts h = tt

  label_found : (ts : List Lexeme) → AreSound ts → FoundLabel ts (label nest ts)
  unfolding label
  label_found [] h = tt
  label_found (t ∷ ts) h = label_found_of t.kind t ts h.1

  label_next : (ts whole : List Lexeme) (r : Result (Option (LabelTree × List Lexeme)) Stuck) (f : LabelTree × List Lexeme → Result (List LabelTree × List Lexeme) Stuck) (d : Result (List LabelTree × List Lexeme) Stuck) → FoundLabel ts r
      → ((x : LabelTree × List Lexeme) → Stand (label_shape.spots x.0) ts x.1 → label_shape.formed x.0 → AreSound x.1 → Found (many label_shape) whole (f x)) → Found (many label_shape) whole d
      → Found (many label_shape) whole (r >>= λ l. option_map_or f l d)
  label_next ts whole (Ok None) f d h k e = e
  label_next ts whole (Ok (Some x)) f d h k e = k x h.0 h.1 h.2
  label_next ts whole (Err s) f d h k e = tt

  pub labels_found : (n : ℕ) (done : List LabelTree) (ts whole : List Lexeme) → Stand (spots_of_many label_shape done) whole ts → AreAllFormed label_shape done → AreSound ts → Found (many label_shape) whole (labels n nest done ts)
  labels_found zero done ts whole s f h = (s, f, h)
  labels_found (suc n) done ts whole s f h =
      label_next ts whole (label nest ts) (λ x. labels n nest (done ++ x.0 ∷ []) x.1) (Ok (done, ts)) (label_found ts h)
      (λ x q g u. labels_found n (done ++ x.0 ∷ []) x.1 whole (one_more label_shape done x.0 whole ts x.1 s q) (formed_on label_shape done x.0 f g) u)
      (s, f, h)
