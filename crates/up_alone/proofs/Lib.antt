pub mod EachLemmas
pub mod LinkLemmas
pub mod BareLemmas
pub mod SizeLemmas
pub mod ReplyLemmas
pub mod CallLemmas
mod AnsweringLemmas
