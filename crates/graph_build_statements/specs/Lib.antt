pub mod Numbering
pub mod Coding
pub mod Reached
pub mod Declaring
pub mod Forms
