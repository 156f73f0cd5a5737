pub mod Changes
pub mod Evidence
pub mod First
pub mod Found
pub mod Quiet
pub mod QuietStarts
