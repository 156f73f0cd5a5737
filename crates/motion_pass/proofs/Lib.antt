pub mod Lists
pub mod Shapes
pub mod Naming
pub mod Keeping
pub mod Computing
pub mod Growing
pub mod Counting
pub mod Valid
mod Doing
mod Treated
mod Acting
mod Moved
mod Functions
mod Along
mod Within
mod Leading
mod More
mod Entering
pub mod FewMoved
