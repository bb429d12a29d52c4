pub mod Spelling
pub mod Runs
pub mod Alignment
pub mod Reading
