pub mod Declarations
pub mod Clauses
pub mod Headers
pub mod Statements
