pub mod Lines
pub mod Verdicts
pub mod Laws
pub mod Excluded
