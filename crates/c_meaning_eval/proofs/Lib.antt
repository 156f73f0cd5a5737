pub mod InShort
pub mod Rounds
pub mod SourceRuns
