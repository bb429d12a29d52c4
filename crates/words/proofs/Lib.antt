pub mod Writing
pub mod Putting
pub mod Parts
