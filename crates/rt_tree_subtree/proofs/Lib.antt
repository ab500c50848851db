pub mod Children
pub mod Growth
pub mod Bits
pub mod Areas
pub mod Holders
