pub mod AnyOf
pub mod SameCount
pub mod Looking
pub mod Entries
