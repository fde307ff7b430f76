pub mod Parts
pub mod Names
pub mod Cuts
pub mod Walks
pub mod Adds
pub mod Empties
