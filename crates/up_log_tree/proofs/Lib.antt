pub mod Paths
pub mod Rising
pub mod Fronts
pub mod Trees
pub mod Rooted
