pub mod Rule
pub mod Wording
pub mod Counted
pub mod Window
pub mod Calendar
pub mod Mask
