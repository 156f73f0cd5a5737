pub mod Beginning
pub mod Blocks
pub mod Ends
pub mod Leaving
pub mod Stops
