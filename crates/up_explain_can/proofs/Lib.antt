mod CanNumberLemmas
mod LineLemmas
mod TellingLemmas
