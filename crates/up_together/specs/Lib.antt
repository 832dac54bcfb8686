pub mod Sitting
pub mod Together
pub mod Holding
