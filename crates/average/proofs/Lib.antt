pub mod Highest
pub mod Balanced
pub mod Wording
pub mod Start
pub mod Clauses
pub mod Lines
