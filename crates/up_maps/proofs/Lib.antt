pub mod Finds
pub mod Flats
pub mod Lists
pub mod Moves
pub mod Numbered
pub mod PlaceLemmas
