pub mod Given
pub mod Indexed
pub mod Replayed
pub mod Stored
