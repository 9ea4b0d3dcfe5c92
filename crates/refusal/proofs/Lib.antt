pub mod ExactlyWhen
pub mod Ranks
pub mod Check
pub mod OneToOne
pub mod Joined
