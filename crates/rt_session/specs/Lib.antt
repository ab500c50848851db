pub mod Session
pub mod Steps
pub mod Selecting
pub mod SessionInside
