mod CompletingLemmas
mod EndLemmas
mod FrameLemmas
mod HandlingLemmas
mod HelloLemmas
pub mod ImageLemmas
mod ReadTurnLemmas
mod ReadingLemmas
pub mod RequestLemmas
mod StopLemmas
mod TurnLemmas
mod WindowLemmas
