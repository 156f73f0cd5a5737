pub mod Homes
pub mod Reused
pub mod Homed
pub mod Seen
pub mod Frames
pub mod Owned
