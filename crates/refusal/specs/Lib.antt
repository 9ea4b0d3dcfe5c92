pub mod Number
pub mod Rank
pub mod Rows
