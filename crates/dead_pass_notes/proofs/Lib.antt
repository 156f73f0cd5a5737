pub mod BlockRows
pub mod Exact
pub mod Points
mod Instructions
mod OfBlocks
pub mod OfUnits
mod Coming
mod Ending
pub mod PlaceWaysPoints
pub mod Scanning
pub mod Searching
mod Circles
mod Found
pub mod Knowing
mod Lost
mod Reading
mod Saying
mod Sources
mod Unmade
mod Walking
pub mod Lists
pub mod Shapes
pub mod Naming
pub mod Keeping
pub mod NamedNotes
pub mod Removing
pub mod Valid
pub mod FewWrites
