pub mod Clashes
pub mod Records
pub mod Runs
