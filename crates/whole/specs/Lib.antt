pub mod Round
pub mod Sum
pub mod Largest
