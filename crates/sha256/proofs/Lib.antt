pub mod Chunks
pub mod Folds
pub mod Pads
pub mod Schedules
pub mod Primes
pub mod Roots
