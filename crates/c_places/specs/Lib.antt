pub mod Memory
pub mod Flow
pub mod Places
