pub mod Hearing
pub mod Reading
