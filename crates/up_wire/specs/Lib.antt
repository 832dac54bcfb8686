pub mod Keys
pub mod Spelling
pub mod Reading
pub mod First
pub mod Bounds
