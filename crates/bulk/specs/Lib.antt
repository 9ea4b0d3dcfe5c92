pub mod Runs
pub mod Serving
pub mod Left
pub mod Paid
