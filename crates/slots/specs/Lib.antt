pub mod Slot
pub mod Memory
pub mod Room
pub mod Lawful
