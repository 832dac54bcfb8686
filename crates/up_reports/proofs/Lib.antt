pub mod OpeningLemmas
pub mod CountLemmas
pub mod TellLemmas
