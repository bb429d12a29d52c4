pub mod Answers
pub mod Marks
pub mod Promises
pub mod Excluded
