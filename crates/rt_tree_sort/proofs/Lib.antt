pub mod Borders
pub mod Buckets
pub mod Digits
