pub mod Columns
pub mod Zeros
pub mod Digits
