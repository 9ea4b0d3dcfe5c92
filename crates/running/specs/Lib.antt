pub mod Limits
pub mod Totals
pub mod Taking
pub mod Running
