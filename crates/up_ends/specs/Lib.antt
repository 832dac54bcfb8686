pub mod Growing
pub mod Moments
pub mod Nonces
pub mod Sinks
pub mod Sources
pub mod Telling
pub mod Verdicts
pub mod Writing
