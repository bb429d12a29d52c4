pub mod Buffers
pub mod Blocks
