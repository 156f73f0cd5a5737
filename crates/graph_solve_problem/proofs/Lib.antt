pub mod Trees
pub mod Lists
pub mod Falling
pub mod Relaxing
pub mod Rounding
pub mod Directing
pub mod Solved
pub mod PathLaws
