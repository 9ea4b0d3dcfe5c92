pub mod Accrued
pub mod NoInterest
pub mod SameSign
pub mod Unique
pub mod ExactlyWhen
pub mod Lines
