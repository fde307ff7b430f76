pub mod Layers
pub mod Nodes
pub mod Trees
