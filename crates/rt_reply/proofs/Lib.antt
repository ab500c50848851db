pub mod Heads
pub mod Listed
