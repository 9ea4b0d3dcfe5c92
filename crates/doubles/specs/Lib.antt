pub mod Doubles
pub mod Export
pub mod Parts
