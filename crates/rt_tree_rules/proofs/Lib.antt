pub mod Uniqueness
pub mod Faithful
pub mod Chosen
pub mod Picks
pub mod Existence
pub mod Counted
