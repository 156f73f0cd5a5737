-- Recipes over homes, and their values.
use Rattle.std.specs.Prelude.{ℕ, List}
use Rattle.recovery.specs.declared.recipe.PlacedRecipe.{PlacedRecipe}
use Rattle.recovery.specs.declared.recipe.PlacedRecipe.TheVariants as placed
use Rattle.word_base.specs.WordOperations.{word_operation, truncated}
use Rattle.recovery.specs.Homes.{home_value}

-- The value of a recipe over what registers and the stack from a frame on hold.
abbrev pub value : (registers ram : List ℕ) → PlacedRecipe → ℕ
value registers ram (placed.Constant word) = word
value registers ram (placed.Home home) = home_value registers ram home
value registers ram (placed.Truncated' truncation at recipe) = truncated truncation (value registers ram recipe)
value registers ram (placed.Operated' operation at left by right) =
    word_operation operation (value registers ram left) (value registers ram right)
