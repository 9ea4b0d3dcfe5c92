pub mod Digits
pub mod Spelled
mod Parts
pub mod Accepted
mod Numbers
mod Pass
mod Placed
pub mod OneText
pub mod Exactly
pub mod RoundTrip
pub mod ByCode
pub mod Unique
pub mod ExactlyWhen
pub mod Lines
pub mod AtPlace
