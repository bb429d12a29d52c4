pub mod Verdicts
pub mod Samples
pub mod OwnFiles
pub mod WriteVerdicts
pub mod OneFile
pub mod Longer
pub mod RoundTrips
pub mod Excluded
