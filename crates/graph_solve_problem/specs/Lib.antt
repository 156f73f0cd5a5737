pub mod Numbers
pub mod Problem
pub mod Paths
pub mod Meets
pub mod Solution
pub mod Rounds
pub mod SetLaws
pub mod SetProblems
