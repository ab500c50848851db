pub mod Picking
pub mod Rising
pub mod Fates
pub mod Refreshing
pub mod Deltas
pub mod Touching
pub mod Looking
pub mod Bare
