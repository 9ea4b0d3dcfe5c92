pub mod SameBytes
pub mod Words
