pub mod Scripts
pub mod ScriptRuns
pub mod Standing
pub mod ScriptAnswers
pub mod ScriptEnds
pub mod WholeRuns
pub mod Facts
pub mod Turns
