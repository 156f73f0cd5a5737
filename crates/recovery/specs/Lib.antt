pub mod Homes
pub mod Recipes
