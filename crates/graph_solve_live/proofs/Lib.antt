pub mod Before
pub mod Living
pub mod Unread
pub mod Walking
pub mod Flowing
pub mod Copying
