pub mod Variables
pub mod Spans
pub mod Storages
pub mod Tables
pub mod Places
pub mod Nodes
pub mod Rows
