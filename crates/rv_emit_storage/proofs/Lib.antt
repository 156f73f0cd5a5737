pub mod Filling
pub mod Offsets
pub mod Padding
pub mod UnitMaps
