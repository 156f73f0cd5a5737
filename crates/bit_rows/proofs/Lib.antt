pub mod Bits
pub mod Moved
pub mod Meeting
pub mod Taking
