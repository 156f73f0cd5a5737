pub mod Homes
pub mod Numbers
pub mod Numbered
pub mod Notes
pub mod Full
pub mod Ranks
pub mod Sources
