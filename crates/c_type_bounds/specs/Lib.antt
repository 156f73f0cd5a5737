pub mod Counts
pub mod Weights
pub mod Visible
pub mod Bounds
