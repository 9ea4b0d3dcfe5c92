pub mod Division
pub mod Digits
