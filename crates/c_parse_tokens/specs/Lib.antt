pub mod Outcome
pub mod Front
pub mod Operators
pub mod Specifiers
