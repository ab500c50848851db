pub mod EngineLemmas
pub mod Printed
pub mod Pumping
pub mod Shells
pub mod StepLemmas
pub mod Taking
