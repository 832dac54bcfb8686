pub mod ScriptNumbers
