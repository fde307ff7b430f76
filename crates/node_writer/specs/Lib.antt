pub mod Put
pub mod Written
pub mod Answer
