pub mod Computing
pub mod Ways
pub mod Words
pub mod MotionPointsComputing
pub mod Numbers
pub mod Columns
pub mod Named
