pub mod Tokens
pub mod Separated
pub mod Nesting
