pub mod Columns
pub mod Groups
pub mod Listed
pub mod Numbers
pub mod Parts
pub mod Quotes
pub mod Sequences
