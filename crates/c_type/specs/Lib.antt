pub mod Faults
pub mod Headers
pub mod Functions
pub mod Items
pub mod Programs
