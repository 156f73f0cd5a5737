pub mod Words
pub mod Forms
pub mod Values
pub mod Job
pub mod Grammar
pub mod Commands
