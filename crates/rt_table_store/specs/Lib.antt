pub mod StoreLists
pub mod Trees
pub mod Visiting
pub mod Picking
pub mod GreatestIds
pub mod StoreInside
