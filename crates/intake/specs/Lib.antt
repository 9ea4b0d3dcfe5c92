pub mod Cuts
pub mod Bounds
pub mod Keeping
pub mod Leads
pub mod Marks
pub mod Numbers
pub mod Words
