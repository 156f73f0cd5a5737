pub mod Flow
pub mod Assigns
pub mod Worked
pub mod Tables
pub mod Names
pub mod Rows
