pub mod Filled
pub mod Kept
pub mod Placed
pub mod StaticAddresses
pub mod Storages
pub mod UnitMaps
