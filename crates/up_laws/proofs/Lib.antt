pub mod FetchLemmas
pub mod QuietLemmas
pub mod TurnLemmas
pub mod WorldLemmas
pub mod PlayLemmas
pub mod TextLemmas
pub mod ApartTurns
