pub mod Passed
pub mod Unique
pub mod ExactlyWhen
pub mod Lines
