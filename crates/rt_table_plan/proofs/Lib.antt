pub mod Ids
pub mod Drafting
pub mod Counting
pub mod Putting
