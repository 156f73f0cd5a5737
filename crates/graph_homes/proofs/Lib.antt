pub mod Events
pub mod Alike
pub mod Calls
pub mod Steps
pub mod Homes
