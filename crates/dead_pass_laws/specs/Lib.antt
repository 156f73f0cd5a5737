pub mod Follows
pub mod Staying
