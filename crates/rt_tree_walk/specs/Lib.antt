pub mod Search
pub mod Visits
pub mod Preorder
pub mod Rows
