pub mod Interest
pub mod Accrual
