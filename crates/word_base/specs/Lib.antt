pub mod Words
pub mod Arithmetic
pub mod Types
pub mod Operations
pub mod Owners
pub mod Worked
pub mod WordOperations
