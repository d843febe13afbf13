pub mod Digits
pub mod Hex
pub mod Parts
pub mod Reading
