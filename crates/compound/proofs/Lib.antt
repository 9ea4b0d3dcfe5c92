pub mod Over
mod Filling
mod Answered
pub mod Unique
pub mod ExactlyWhen
pub mod Places
pub mod Lines
