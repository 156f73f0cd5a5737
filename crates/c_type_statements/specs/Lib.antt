pub mod StatementEnds
pub mod Settings
pub mod Switches
pub mod Statements
pub mod Chains
