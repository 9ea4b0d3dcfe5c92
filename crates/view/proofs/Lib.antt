mod Openings
pub mod Opens
