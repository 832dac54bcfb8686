pub mod Watching
pub mod Decided
pub mod Batches
pub mod Items
