pub mod Counting
pub mod Stepping
mod Looking
