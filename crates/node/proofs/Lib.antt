pub mod Prefixes
pub mod Sizes
pub mod Forms
pub mod Decodes
pub mod OfBytes
