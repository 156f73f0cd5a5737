pub mod Examples
pub mod Passed
pub mod Passing
