pub mod Answers
pub mod Insertion
pub mod Parts
