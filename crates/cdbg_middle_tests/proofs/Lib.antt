pub mod Shapes
pub mod LogsOne
pub mod InOrder
