pub mod CutterAtoms
pub mod CutterRuns
pub mod CutterFront
pub mod CutterLaws
pub mod CutterHolds
mod CutterBlocks
