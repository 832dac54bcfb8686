pub mod Blocks
pub mod Caching
pub mod Copying
pub mod Printing
pub mod Steady
pub mod Ties
