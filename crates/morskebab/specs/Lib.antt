pub mod NetAnswer
pub mod Version
