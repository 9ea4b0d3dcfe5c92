pub mod Unique
pub mod Cursor
