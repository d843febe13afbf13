pub mod Stages
pub mod Refusals
pub mod Grants
pub mod Bays
