mod Countable
mod Instructions
mod OfBlocks
mod Operands
pub mod Keeping
pub mod LogsWell
