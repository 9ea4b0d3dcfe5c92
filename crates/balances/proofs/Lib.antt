pub mod Rows
pub mod ClosedForm
