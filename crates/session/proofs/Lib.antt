pub mod Fitting
pub mod Footing
pub mod Replies
pub mod Stages
