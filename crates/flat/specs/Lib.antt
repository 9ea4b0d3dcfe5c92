pub mod Given
pub mod Answers
pub mod Books
pub mod Rows
pub mod Statements
pub mod Views
pub mod Reasons
