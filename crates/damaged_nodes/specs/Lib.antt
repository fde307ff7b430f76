pub mod Verdicts
pub mod Parts
