pub mod Rooms
pub mod Lists
pub mod Once
pub mod Valid
pub mod Among
