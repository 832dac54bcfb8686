pub mod Applying
pub mod Damages
pub mod Sizes
pub mod Olds
pub mod Opening
