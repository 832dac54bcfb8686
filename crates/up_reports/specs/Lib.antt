pub mod Opens
pub mod Telling
pub mod Owners
