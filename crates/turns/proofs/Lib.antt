mod Settling
mod Turns
pub mod Split
pub mod Frame
pub mod Local
mod Stopping
pub mod Moving
mod Operands
