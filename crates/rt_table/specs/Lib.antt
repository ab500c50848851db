pub mod Held
pub mod Replies
pub mod Ready
pub mod TableInside
pub mod AnyTrees
pub mod AnyAxes
pub mod Edits
