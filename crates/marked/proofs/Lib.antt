pub mod Marked
pub mod OldLimit
