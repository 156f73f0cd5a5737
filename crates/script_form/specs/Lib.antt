pub mod Reading
pub mod Refusal
pub mod Script
pub mod Words
