pub mod Scales
pub mod Ranges
pub mod Drawn
pub mod Once
pub mod Answering
pub mod Markups
pub mod Documents
