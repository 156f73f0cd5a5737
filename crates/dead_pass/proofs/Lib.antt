pub mod Leaving
pub mod Placed
pub mod Noting
pub mod Saying
pub mod ByRule
pub mod Bounded
