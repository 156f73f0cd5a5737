pub mod Counted
pub mod Keys
pub mod Steps
mod FirstAndLast
