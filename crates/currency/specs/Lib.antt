pub mod Table
pub mod Tens
pub mod Digits
pub mod Names
