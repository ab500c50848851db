pub mod Outside
pub mod InOrder
pub mod LeafRows
