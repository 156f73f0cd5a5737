pub mod HexadecimalLemmas
pub mod Pieces
pub mod Sequences
