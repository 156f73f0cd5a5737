mod Flags
mod HomeWords
pub mod NameBounds
mod NameStartLaws
pub mod Records
mod Slots
pub mod VariableListLaws
