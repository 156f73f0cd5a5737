pub mod Reaches
pub mod Longest
pub mod Layouts
pub mod Spelling
pub mod Tracing
pub mod Laid
pub mod Placed
pub mod Words
