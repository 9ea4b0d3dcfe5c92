pub mod Amounts
pub mod Sum
pub mod Rescaling
pub mod Raising
