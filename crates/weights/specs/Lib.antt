pub mod Lent
pub mod Weights
