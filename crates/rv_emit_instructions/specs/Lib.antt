pub mod Operations
pub mod Calls
pub mod Code
pub mod Filling
pub mod Memory
pub mod Stops
