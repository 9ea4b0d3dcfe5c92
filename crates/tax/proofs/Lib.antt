mod Value
mod NetAnswer
pub mod Adds
pub mod Bounds
pub mod NeverOver
pub mod NetFor
pub mod Unique
pub mod ExactlyWhen
pub mod Lines
