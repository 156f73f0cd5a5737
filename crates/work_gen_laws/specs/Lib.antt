pub mod Drawn
pub mod Pieces
pub mod Trees
