pub mod Sequences
pub mod Words
