pub mod Plans
pub mod Drafts
pub mod Counts
