pub mod MovedRuns
pub mod Made
pub mod Often
pub mod Optimal
