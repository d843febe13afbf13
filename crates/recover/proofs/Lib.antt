pub mod Runs
pub mod Standing
pub mod Together
