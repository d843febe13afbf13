pub mod Words
pub mod Turns
pub mod Laying
pub mod Halves
