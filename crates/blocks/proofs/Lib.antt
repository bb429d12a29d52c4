pub mod Pairing
pub mod Parts
pub mod BlockRuns
pub mod PairRuns
