pub mod Extents
pub mod Variables
