pub mod Lines
pub mod Command
pub mod Session
