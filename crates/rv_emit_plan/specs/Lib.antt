pub mod Flows
pub mod Orders
pub mod Plans
