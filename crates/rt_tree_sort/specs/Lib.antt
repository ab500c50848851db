pub mod Buckets
pub mod Digits
