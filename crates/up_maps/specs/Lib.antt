pub mod Joined
pub mod Kept
pub mod Maps
pub mod Numbers
