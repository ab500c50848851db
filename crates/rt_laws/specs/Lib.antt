pub mod SessionLaws
pub mod Replaying
pub mod ScriptLaws
pub mod StatementExamples
pub mod LineExamples
pub mod DumpLaws
