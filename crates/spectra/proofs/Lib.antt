pub mod Tested
pub mod Accepted
pub mod Determined
pub mod MarkRules
pub mod MarkRuns
pub mod Excluded
