pub mod Step
pub mod Turn
pub mod Laws
