mod Adding
mod Entries
mod OfFunctions
mod Hiding
mod OfUnits
pub mod Distinct
mod OnRows
mod Named
mod Sourced
mod Tellable
mod Variables
