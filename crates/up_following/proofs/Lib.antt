pub mod TurnLemmas
pub mod StayLemmas
pub mod RunLemmas
pub mod AnswerLemmas
