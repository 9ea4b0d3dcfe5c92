pub mod Laws
pub mod Sums
pub mod Exchange
pub mod Keys
pub mod Lists
