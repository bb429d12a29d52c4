pub mod File
pub mod OwnFile
pub mod Answers
pub mod Promises
pub mod Laws
pub mod Excluded
