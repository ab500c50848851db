pub mod Lending
pub mod Passing
pub mod Sent
pub mod Values
