pub mod Once
pub mod Telling
pub mod Removals
pub mod RemovedChangesTelling
