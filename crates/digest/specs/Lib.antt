pub mod Kind
pub mod Fold
pub mod Layer
pub mod Hex
