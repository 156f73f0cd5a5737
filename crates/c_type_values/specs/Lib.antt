pub mod Values
pub mod Operations
pub mod Pointers
pub mod Writing
