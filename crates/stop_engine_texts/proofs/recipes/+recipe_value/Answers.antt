use Rattle.std.proofs.Common.{Some, ap, ◌∙◌}
use Rattle.image_form.specs.Views.{viewed}
use Rattle.stop_engine_texts.proofs.RecipeValues.{operated-at, truncated-at}
use Rattle.stop_engine_texts.proofs.recipes.+recipe_value.Goals as goal

-- src/recipes.rt:58:1
pub returns-in-Truncated : goal.returns-in-Truncated
returns-in-Truncated t c =
    truncated-at (viewed c.args.image.now) c.args.machine.now c.args.levels c.args.root c.in-Truncated.truncation
    c.in-Truncated.operand c.recipe_value.result c.truncate.result c.if-levels-eq0.false
    (c.node_at.ensures ∙ ap Some c.in-Truncated.is) c.recipe_value.ensures c.truncate.ensures

-- src/recipes.rt:58:1
pub returns-in-Operated : goal.returns-in-Operated
returns-in-Operated t c =
    operated-at (viewed c.args.image.now) c.args.machine.now c.args.levels c.args.root c.in-Operated.operation
    c.in-Operated.left c.in-Operated.right c.recipe_value-first.result c.recipe_value-second.result c.operate.result
    c.if-levels-eq0.false (c.node_at.ensures ∙ ap Some c.in-Operated.is) c.recipe_value-first.ensures
    c.recipe_value-second.ensures c.operate.ensures
