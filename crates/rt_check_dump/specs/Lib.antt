pub mod Dump
pub mod Pieces
pub mod Numbers
pub mod Lines
pub mod Reading
pub mod InRange
pub mod Faults
pub mod Codes
