pub mod Ran
pub mod Entries
pub mod Faults
pub mod Fields
pub mod Lines
pub mod Text
