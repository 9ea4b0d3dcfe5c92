pub mod Opened
pub mod Words
