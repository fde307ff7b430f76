pub mod Stands
pub mod Items
pub mod Entries
pub mod Nodes
pub mod Find
pub mod Reader
