mod Putting
mod Growing
mod Counting
mod Lining
mod Ahead
pub mod Kept
mod Belonging
mod Needed
mod NodesOnce
pub mod NodeRules
