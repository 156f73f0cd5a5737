pub mod CodeBytes
pub mod Effects
pub mod Laws
pub mod Memory
pub mod Narrow
pub mod Rows
pub mod Words
