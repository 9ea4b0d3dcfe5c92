pub mod Tax
pub mod NetFor
pub mod Parts
