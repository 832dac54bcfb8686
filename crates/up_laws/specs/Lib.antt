pub mod Turns
pub mod Worlds
pub mod Histories
pub mod Apart
pub mod Texts
