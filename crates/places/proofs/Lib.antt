pub mod Numbers
pub mod Orders
pub mod Searched
pub mod Taking
pub mod Tracing
pub mod LeastByPlaces
