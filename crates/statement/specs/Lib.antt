pub mod Bytes
pub mod Files
pub mod Writing
pub mod Reading
pub mod Walking
pub mod Parts
