pub mod Above
pub mod Steps
pub mod Removal
pub mod Replacement
