pub mod Positions
pub mod Views
pub mod Known
pub mod Turned
pub mod Kept
pub mod Plays
