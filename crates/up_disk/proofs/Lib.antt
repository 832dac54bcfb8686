mod AheadLemmas
mod BlankLemmas
mod Examples
mod Images
mod Kept
pub mod Moments
