pub mod Apart
pub mod Cycles
pub mod Heads
pub mod Passing
pub mod Placing
pub mod Ranks
pub mod Standing
pub mod Sums
