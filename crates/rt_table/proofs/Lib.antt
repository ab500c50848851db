pub mod Viewing
pub mod Readying
pub mod Showing
pub mod Planned
pub mod Leaving
