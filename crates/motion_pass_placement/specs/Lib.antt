pub mod Fates
pub mod Columns
pub mod Placed
pub mod Moving
pub mod Moves
pub mod Bounded
