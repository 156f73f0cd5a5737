pub mod Steps
pub mod Lists
pub mod Views
pub mod Loops
