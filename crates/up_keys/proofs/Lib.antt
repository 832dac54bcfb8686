pub mod Damages
pub mod Putting
pub mod Spelled
