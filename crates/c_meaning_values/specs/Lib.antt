pub mod Types
pub mod Memory
pub mod Living
pub mod Operations
pub mod Views
