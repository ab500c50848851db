pub mod Pieces
pub mod Text
pub mod Cutter
pub mod CutterStep
pub mod Room
