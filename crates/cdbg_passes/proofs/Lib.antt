mod Made
pub mod Lawful
mod Functions
mod LoggedCases
mod CopiesEarned
mod Unassigned
mod Lagging
mod DeadEarned
mod NoDead
mod DownSafe
mod Widening
mod Insertions
mod MotionEarned
mod NoCopies
mod NoDeadCounts
mod LeftForBounds
mod ComputedOnce
mod NeverGrow
mod WorkedOften
mod WorkedLeast
mod WorkedLeft
mod CountedPaths
pub mod OnTrail
