pub mod Weighed
pub mod Passed
pub mod Lent
