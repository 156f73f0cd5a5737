pub mod Callers
pub mod Elements
pub mod FlowOrder
pub mod PlacesByAddress
pub mod RoutesAlike
pub mod RowsByPlace
pub mod Targets
