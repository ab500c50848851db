pub mod Rows
pub mod Changes
pub mod Live
pub mod LiveInside
pub mod Following
pub mod Finding
pub mod Faults
pub mod Room
