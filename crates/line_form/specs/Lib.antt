pub mod Changes
pub mod Decimal
pub mod Hexadecimal
pub mod Lines
pub mod Status
pub mod Values
