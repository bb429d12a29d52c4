pub mod Exact
pub mod Transforms
pub mod Counts
pub mod Limits
pub mod Orthogonality
pub mod Examples
