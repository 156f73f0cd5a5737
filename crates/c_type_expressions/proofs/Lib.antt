pub mod Arguments
pub mod Chains
pub mod SuffixChains
