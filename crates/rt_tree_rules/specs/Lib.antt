pub mod Nested
pub mod Placing
pub mod Removing
pub mod Filled
pub mod Shadow
pub mod Examples
pub mod Laws
