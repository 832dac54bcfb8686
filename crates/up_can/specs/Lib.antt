pub mod CanFiles
pub mod CanLines
pub mod CanRuns
pub mod CanAnswers
