pub mod Typed
pub mod Stops
pub mod Correspondence
