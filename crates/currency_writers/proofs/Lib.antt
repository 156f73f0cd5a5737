pub mod Pushing
pub mod Entering
mod Flooding
mod Going
mod Marking
mod Telling
pub mod Routes
mod Copied
pub mod Order
mod Ordering
pub mod Indexed
mod Written
