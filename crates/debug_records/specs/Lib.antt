pub mod Code
pub mod Change
pub mod Numbers
pub mod Refusals
