pub mod Lists
pub mod Bytes
