pub mod Findings
pub mod Names
pub mod Judgements
pub mod Expressions
pub mod Chains
