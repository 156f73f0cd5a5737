pub mod Scopes
pub mod Progress
pub mod Objects
pub mod Initials
pub mod Statics
pub mod Declarations
