mod Answering
mod ByDepth
mod Followers
mod Called
mod MarkBounds
mod MarkLaws
mod Stepping
pub mod Executions
mod StopTables
mod ActivationLaws
mod VisibleLaws
mod StopsByLine
mod CodeWords
mod PlaceFunctions
