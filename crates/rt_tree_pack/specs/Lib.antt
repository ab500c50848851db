pub mod Packing
pub mod Steps
pub mod Sorting
