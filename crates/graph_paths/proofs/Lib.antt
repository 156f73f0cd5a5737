pub mod Tables
pub mod PathMarksTables
pub mod Leading
pub mod Points
pub mod Told
pub mod Flooding
