pub mod CParseDeclarationsLoops
pub mod CParseClausesLoops
pub mod Levels
pub mod Loops
pub mod ElseChains
