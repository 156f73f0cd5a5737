pub mod Drafts
pub mod Rules
pub mod Steps
