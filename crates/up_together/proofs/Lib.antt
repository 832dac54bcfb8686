pub mod AnsweringLemmas
mod HoldingLemmas
pub mod SittingLemmas
