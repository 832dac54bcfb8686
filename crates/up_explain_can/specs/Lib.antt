pub mod Explaining
pub mod Judging
pub mod CanNumbers
