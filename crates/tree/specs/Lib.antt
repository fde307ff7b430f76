pub mod Map
pub mod MapLaws
pub mod Row
pub mod Tree
pub mod ByLayer
pub mod Path
pub mod Change
pub mod Laws
