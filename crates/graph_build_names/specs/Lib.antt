pub mod Scales
pub mod Conversions
pub mod Operands
pub mod Names
pub mod Writes
pub mod Inner
