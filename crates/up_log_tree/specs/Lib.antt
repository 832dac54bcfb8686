pub mod Orders
pub mod Trees
pub mod Rights
pub mod Fits
pub mod Changes
pub mod Snapshots
pub mod Sizes
pub mod Logs
