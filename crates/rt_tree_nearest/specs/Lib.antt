pub mod Nearest
pub mod Candidates
