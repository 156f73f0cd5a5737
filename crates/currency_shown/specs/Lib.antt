pub mod Numbering
pub mod Found
pub mod Survey
pub mod Shown
pub mod Chains
