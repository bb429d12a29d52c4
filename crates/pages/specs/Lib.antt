pub mod Page
pub mod Promises
pub mod Laws
pub mod Excluded
