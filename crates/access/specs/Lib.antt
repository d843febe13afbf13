pub mod Stops
pub mod Shown
pub mod Kinds
pub mod Access
pub mod Cache
