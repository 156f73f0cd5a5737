pub mod Holding
pub mod Doing
pub mod Programs
pub mod Points
pub mod EmitMovesDoing
pub mod Frames
pub mod Meaning
