pub mod InParts
pub mod Powers
pub mod EmitInstructionsInParts
