mod FirstRow
pub mod PlaceRows
mod RecipeValues
mod ValidRows
mod VariablesInTurn
