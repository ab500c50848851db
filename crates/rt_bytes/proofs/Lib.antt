pub mod Writing
pub mod Consuming
