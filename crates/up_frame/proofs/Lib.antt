pub mod Cuts
pub mod Readings
mod Examples
