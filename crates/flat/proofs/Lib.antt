pub mod Passed
pub mod Fields
pub mod Outcomes
pub mod Ends
pub mod ExactlyWhen
