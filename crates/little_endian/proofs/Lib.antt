pub mod Signs
pub mod Bytes
