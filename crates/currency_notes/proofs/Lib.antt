pub mod Lists
pub mod ReadNames
mod Numbering
pub mod Steps
pub mod Sourcing
mod Losing
mod Keeping
pub mod Filling
pub mod Lowering
