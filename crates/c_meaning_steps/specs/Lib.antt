pub mod EventViews
pub mod States
pub mod Steps
pub mod Tallies
pub mod Views
