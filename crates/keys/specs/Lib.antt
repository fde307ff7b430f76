pub mod Order
pub mod Shared
pub mod Size
pub mod Key
