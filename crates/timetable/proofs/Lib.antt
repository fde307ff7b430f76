pub mod Commands
pub mod Cuts
pub mod Sessions
pub mod Taken
