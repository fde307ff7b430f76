pub mod Lessons
pub mod Trees
