pub mod OwnerLemmas
pub mod LineLemmas
pub mod FactLemmas
pub mod RunningLemmas
pub mod TurnLemmas
pub mod FreeLemmas
pub mod ScriptRunLemmas
mod TieLemmas
mod WholeLemmas
