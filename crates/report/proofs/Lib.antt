pub mod LineRuns
pub mod Printing
pub mod Outputs
