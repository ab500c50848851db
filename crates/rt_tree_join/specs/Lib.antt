pub mod Join
pub mod Due
pub mod Itself
