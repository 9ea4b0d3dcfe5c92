pub mod Grammar
pub mod Read
pub mod Scan
pub mod Written
pub mod Codes
pub mod Putting
