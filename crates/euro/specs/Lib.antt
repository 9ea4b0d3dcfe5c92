pub mod Steps
pub mod Conversion
pub mod Through
pub mod ThereAndBack
