pub mod ScriptLines
pub mod Askable
