pub mod Num
pub mod Input
pub mod Spelling
pub mod Sizes
pub mod Reading
pub mod First
pub mod Forms
pub mod Sequences
