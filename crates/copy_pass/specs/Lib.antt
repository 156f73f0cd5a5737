pub mod Points
pub mod Reads
