pub mod Visible
pub mod Telling
pub mod Sound
pub mod Named
pub mod Written
pub mod Evident
pub mod Premises
pub mod Tellable
