pub mod Grid
pub mod Words
