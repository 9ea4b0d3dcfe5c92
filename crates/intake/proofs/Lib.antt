mod Choices
mod Stops
mod Heads
mod Kept
pub mod Words
pub mod Readings
pub mod Inside
pub mod Unique
