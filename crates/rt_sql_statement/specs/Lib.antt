pub mod Name
pub mod Refusal
pub mod Value
pub mod ValueLaws
