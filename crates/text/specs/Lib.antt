pub mod Search
pub mod Lines
pub mod Results
pub mod Faults
pub mod LineRule
pub mod TakeLine
pub mod Numbers
pub mod Spelling
