pub mod Rule
pub mod Wording
