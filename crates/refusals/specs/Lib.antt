pub mod Refusals
pub mod Answers
pub mod Passes
pub mod Calls
pub mod Tests
pub mod Exclusion
pub mod Symmetry
