pub mod Ranges
pub mod Passes
pub mod Conditions
pub mod Promises
pub mod Calls
pub mod Exclusion
pub mod Symmetry
