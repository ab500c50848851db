pub mod Lists
pub mod Claimed
pub mod Gained
pub mod Joined
pub mod Noted
pub mod Places
