pub mod Meaning
pub mod Answer
pub mod Calls
pub mod Drafts
pub mod Copies
pub mod Runs
pub mod Blocks
pub mod Text
