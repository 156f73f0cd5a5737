pub mod Laid
pub mod Layout
pub mod Chains
