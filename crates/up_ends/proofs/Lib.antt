pub mod Examples
pub mod Gathering
pub mod Going
pub mod NextAnswers
