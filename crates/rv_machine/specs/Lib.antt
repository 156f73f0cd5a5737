pub mod State
pub mod Memory
pub mod Table
pub mod Reading
pub mod Run
pub mod Laws
