pub mod Weighing
pub mod Named
