pub mod Words
pub mod Constants
pub mod Rule
pub mod Rounds
pub mod Padding
pub mod Sha256
pub mod Tail
