pub mod ByNumber
pub mod Living
