pub mod Names
pub mod Formats
pub mod Readings
