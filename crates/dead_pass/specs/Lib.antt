pub mod Left
pub mod LeftBy
pub mod Noted
pub mod Notes
