pub mod Begins
pub mod Calls
pub mod Counts
pub mod Runs
