pub mod Table
pub mod PathMarksTable
pub mod Reached
pub mod Flood
pub mod Lists
