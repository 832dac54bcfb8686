pub mod Blocks
pub mod Kept
pub mod Messages
pub mod Records
