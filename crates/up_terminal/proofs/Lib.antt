pub mod CutLemmas
pub mod SessionLemmas
pub mod InputLemmas
pub mod EndLemmas
pub mod LineLemmas
pub mod AnswerLemmas
