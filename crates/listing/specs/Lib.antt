pub mod Numbers
pub mod Words
pub mod Line
pub mod Listing
pub mod Rising
pub mod Assembled
pub mod Laws
