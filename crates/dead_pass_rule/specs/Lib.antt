pub mod Idle
pub mod Removing
pub mod Asking
pub mod Certified
pub mod Walks
pub mod Free
pub mod Cascade
pub mod Cascading
