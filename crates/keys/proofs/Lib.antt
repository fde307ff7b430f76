pub mod Fronts
pub mod Orders
pub mod Keys
