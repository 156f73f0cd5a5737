pub mod PlacesBefore
pub mod Wanted
