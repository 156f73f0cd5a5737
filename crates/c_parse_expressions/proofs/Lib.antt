pub mod Levels
pub mod Loops
