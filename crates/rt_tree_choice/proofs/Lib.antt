pub mod Entries
pub mod Covering
pub mod Lists
pub mod Digits
pub mod EntryNumbers
pub mod Outliers
pub mod Partings
pub mod Sorted
