pub mod Sharing
pub mod Splits
pub mod Records
pub mod Jobs
pub mod Callers
