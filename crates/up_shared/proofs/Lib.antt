pub mod Pairs
pub mod Halves
pub mod Places
pub mod Adding
pub mod Turning
pub mod Telling
