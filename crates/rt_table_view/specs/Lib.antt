pub mod Watching
pub mod Preparing
pub mod Fates
