pub mod SameRuns
pub mod Alike
