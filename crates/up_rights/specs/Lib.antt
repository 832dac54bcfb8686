pub mod RightSets
pub mod Words
