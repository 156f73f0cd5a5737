pub mod Fields
pub mod Operations
pub mod InForm
pub mod Encoding
pub mod Decoding
pub mod Laws
