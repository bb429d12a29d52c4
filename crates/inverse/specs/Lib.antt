pub mod Inverse
pub mod Promises
pub mod Steps
pub mod Laws
pub mod Excluded
