pub mod Orders
pub mod OrderLaws
pub mod Readers
pub mod Report
pub mod Known
pub mod Plans
pub mod Sharing
