pub mod Asking
pub mod Books
pub mod Meeting
