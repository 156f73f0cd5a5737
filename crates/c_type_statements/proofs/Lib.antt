pub mod Laws
pub mod Chains
pub mod Loops
pub mod LastTokens
pub mod Views
pub mod Labels
pub mod Arms
