pub mod Live
pub mod Inside
pub mod Unread
pub mod Flowing
pub mod LiveRows
