pub mod Flowing
pub mod Facts
pub mod Problems
pub mod Inner
pub mod MotionProblemsProblems
