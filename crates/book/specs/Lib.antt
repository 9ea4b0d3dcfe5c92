pub mod Settled
pub mod Books
pub mod Moves
pub mod Cards
pub mod History
pub mod Quarter
pub mod Broken
pub mod Checks
