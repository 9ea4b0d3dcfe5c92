pub mod Parts
pub mod Answered
pub mod Unique
pub mod ExactlyWhen
