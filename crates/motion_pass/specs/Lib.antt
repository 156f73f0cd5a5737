pub mod Grown
pub mod Placing
pub mod Amounts
pub mod Cases
pub mod Counts
