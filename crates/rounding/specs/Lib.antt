pub mod Modes
pub mod Leaf
pub mod Product
pub mod Plain
pub mod Found
pub mod Answers
pub mod Short
