pub mod Known
pub mod Axes
pub mod Listing
pub mod Tallies
pub mod Hulls
pub mod Places
