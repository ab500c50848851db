pub mod Shadow
pub mod ShadowInside
pub mod Conditions
pub mod ProblemLists
pub mod Tally
pub mod Fits
