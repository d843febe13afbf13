pub mod Registers
pub mod Shown
pub mod Plan
pub mod Act
pub mod Address
pub mod Bits
pub mod Strings
pub mod Instructions
