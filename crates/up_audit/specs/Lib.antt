pub mod Audits
pub mod Marks
pub mod Words
pub mod Texts
pub mod Runs
