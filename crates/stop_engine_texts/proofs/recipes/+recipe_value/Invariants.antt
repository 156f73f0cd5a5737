use Rattle.stop_engine_texts.proofs.recipes.+recipe_value.Given as goal

abbrev pub decreases-recipe_value : goal.decreases-recipe_value
decreases-recipe_value l = l.levels
