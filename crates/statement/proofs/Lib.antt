mod Pasting
pub mod ReadBack
mod Putting
pub mod Words
mod Any
pub mod Totals
pub mod Fields
mod Behind
mod Widths
mod Walk
mod Run
pub mod Accepted
mod Heads
mod Answered
mod Held
mod Ending
pub mod Exactly
pub mod Both
pub mod Handed
pub mod ReadWritten
pub mod Unique
pub mod ExactlyWhen
pub mod Lines
pub mod Different
mod Changed
pub mod Damage
