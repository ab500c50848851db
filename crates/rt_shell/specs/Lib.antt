pub mod Engine
pub mod Shell
pub mod Transcript
pub mod Run
