pub mod InstructionWords
pub mod Words
pub mod Constants
pub mod Fetching
pub mod Growing
pub mod Operands
pub mod Shown
