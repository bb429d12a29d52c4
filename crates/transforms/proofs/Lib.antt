pub mod Pairs
pub mod Folding
pub mod Joining
pub mod Levels
pub mod DftRuns
pub mod DctRuns
pub mod Bases
pub mod Halves
