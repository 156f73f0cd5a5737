pub mod ShownOrHidden
mod ByKind
mod Listed
mod Numbering
mod Coming
pub mod Within
mod Asked
mod Found
mod Barring
mod QuietLeft
mod QuietWays
mod First
pub mod Same
