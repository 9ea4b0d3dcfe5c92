pub mod Largest
pub mod Remainders
pub mod Left
pub mod Handing
pub mod Shares
pub mod Wording
pub mod Signs
pub mod Lines
