pub mod Assembled
pub mod Faults
pub mod Halted
pub mod Ending
pub mod Runs
