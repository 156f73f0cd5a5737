use Rattle.std.proofs.Common.{◌≡◌, List, [], ◌∷◌, ◌++◌, Box, Global, refl, sym, ap, ◌∙◌}
use Rattle.std.specs.Prelude.{map}
use Rattle.c_tree.specs.declared.typed_expression.Rvalue.{Rvalue}
use Rattle.c_tree.specs.TypedExpressions.{ArgumentTrees, first, arguments_view}
use Rattle.c_type_values.specs.Values.{node_view}
use Rattle.c_type_expressions.specs.Judgements.{behind}
use Rattle.c_type_expressions.proofs.call.argument_list.Goals as goal

behind_last : (rs : List (Box Rvalue Global)) (r : Box Rvalue Global) (all : ArgumentTrees) → behind (map node_view (rs ++ r ∷ [])) all ≡ behind (map node_view rs) (first (node_view r) all)
behind_last [] r all = refl
behind_last (x ∷ rs) r all = ap (first (node_view x)) (behind_last rs r all)

pub loop-value-preserved : goal.loop-value-preserved
loop-value-preserved c =
    rw (c.in_ok-rest.ensures)
    (sym (behind_last c.pop.new.self.items c.in-Some.value (arguments_view c.loop-value.all))
    ∙ ap (λ xs. behind (map node_view xs) (arguments_view c.loop-value.all)) (sym c.in-Some.ensures.items)
    ∙ c.loop-value.invariant)
