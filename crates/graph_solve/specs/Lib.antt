pub mod GraphFlow
pub mod First
pub mod Rows
pub mod Work
pub mod Solved
