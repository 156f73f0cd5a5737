pub mod Growing
pub mod Stops
