-- Arguments behind those that stand already.
use Rattle.std.proofs.Common.{◌≡◌, ◌<◌, ℕ, ◌+◌, List, [], ◌∷◌, ◌++◌, length, drop, get_or, Bool, true, false, ◌&&◌, Option, Box, Global, refl, ap, sym, ◌∙◌}
use Rattle.std.specs.Prelude.{slice_get, map}
use Rattle.std.proofs.lemmas.List.{drop_more, map_push}
use Rattle.c_tree.specs.declared.object_type.Scalar.{Scalar}
use Rattle.c_tree.specs.declared.expression.Expression.{Expression}
use Rattle.c_tree.specs.declared.typed_expression.Rvalue.{Rvalue}
use Rattle.c_tree.specs.Expressions.{ExpressionTree, chain_of_arguments, expression_view}
use Rattle.c_tree.specs.TypedExpressions.{RvalueTree, ArgumentTrees, first}
use Rattle.c_type_values.specs.Values.{ValueTree, node_view}
use Rattle.c_type_expressions.specs.Names.{Names}
use Rattle.c_type_expressions.specs.Findings.{FoundTree, Checked, gives, check_next}
use Rattle.c_type_expressions.specs.Judgements.{Passed, behind, with_passed, argument_before, passed_to, valued}
use Rattle.c_type_expressions.specs.Expressions.{typed, typed_all, is_zero}

pub behind_last : (rs : List RvalueTree) (r : RvalueTree) (all : ArgumentTrees) → behind (rs ++ r ∷ []) all ≡ behind rs (first r all)
behind_last [] r all = refl
behind_last (x ∷ rs) r all = ap (first x) (behind_last rs r all)

both : (a b c : Bool) → ((a && b) && c) ≡ (a && (b && c))
both true b c = refl
both false b c = refl

one_before : (rs : List RvalueTree) (r : RvalueTree) (fit fits : Bool) (q : Checked Passed)
    → with_passed (rs ++ r ∷ []) (fit && fits) q ≡ with_passed rs fit (check_next q (argument_before (r, fits)))
one_before rs r fit fits (gives q s) = rw (behind_last rs r q.trees, both fit fits q.fit) refl

one_passed : (names : Names) (parameters : List Scalar) (at : ℕ) (e : ExpressionTree) (es : List ExpressionTree) (rs : List RvalueTree) (r : RvalueTree) (fit fits : Bool) (s t : FoundTree) (v : Option ValueTree)
    → gives v t ≡ valued (typed names e s) → (r, fits) ≡ passed_to (slice_get parameters at) v (is_zero e)
    → with_passed (rs ++ r ∷ []) (fit && fits) (typed_all names (chain_of_arguments es) parameters (at + 1) t) ≡ with_passed rs fit (typed_all names (chain_of_arguments (e ∷ es)) parameters at s)
one_passed names parameters at e es rs r fit fits s t v is one = rw (← is, ← one) (one_before rs r fit fits (typed_all names (chain_of_arguments es) parameters (at + 1) t))

-- one more argument of a list
pub passed_step : (names : Names) (parameters : List Scalar) (at : ℕ) (all : List Expression) (e : Expression) (rs : List (Box Rvalue Global)) (r : Box Rvalue Global) (fit fits : Bool) (s t : FoundTree) (v : Option ValueTree)
    → e ≡ get_or all at e → at < length all → gives v t ≡ valued (typed names (expression_view e) s) → (node_view r, fits) ≡ passed_to (slice_get parameters at) v (is_zero (expression_view e))
    → with_passed (map node_view (rs ++ r ∷ [])) (fit && fits) (typed_all names (chain_of_arguments (map expression_view (drop (at + 1) all))) parameters (at + 1) t)
    ≡ with_passed (map node_view rs) fit (typed_all names (chain_of_arguments (map expression_view (drop at all))) parameters at s)
passed_step names parameters at all e rs r fit fits s t v here lt is one =
    rw (map_push node_view rs r)
    (one_passed names parameters at (expression_view e) (map expression_view (drop (at + 1) all)) (map node_view rs) (node_view r) fit fits s t v is one
    ∙ ap (λ es. with_passed (map node_view rs) fit (typed_all names (chain_of_arguments (map expression_view es)) parameters at s)) (ap (λ x. x ∷ drop (at + 1) all) here ∙ sym (drop_more all at e lt)))
