pub mod Major
pub mod Format
pub mod WellFormed
pub mod Decode
pub mod Laws
pub mod Values
