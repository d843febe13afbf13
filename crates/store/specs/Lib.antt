pub mod Check
pub mod Store
pub mod Bulk
