pub mod Bytes
pub mod Memory
pub mod Devices
