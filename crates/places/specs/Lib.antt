pub mod Flow
pub mod Path
pub mod Route
pub mod Search
