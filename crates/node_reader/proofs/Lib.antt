pub mod Walks
pub mod Parts
pub mod Rests
pub mod Passages
pub mod Finds
