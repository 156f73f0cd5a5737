pub mod Chains
pub mod Cores
pub mod Views
