pub mod Gathering
pub mod Soundness
