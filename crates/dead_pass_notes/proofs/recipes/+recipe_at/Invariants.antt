use Rattle.dead_pass_notes.proofs.recipes.+recipe_at.Given as goal

abbrev pub decreases-recipe_at : goal.decreases-recipe_at
decreases-recipe_at l = l.depth
