pub mod StepCounts
pub mod StepTrees
pub mod StepLaws
