pub mod Calls
pub mod Hall
pub mod History
pub mod Laws
