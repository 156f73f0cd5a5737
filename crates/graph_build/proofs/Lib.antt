pub mod Ordering
pub mod Graphs
