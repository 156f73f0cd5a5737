pub mod Integers
pub mod Constants
pub mod Types
pub mod Constancies
pub mod ValueTypes
