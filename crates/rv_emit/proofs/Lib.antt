pub mod Promised
mod Counted
