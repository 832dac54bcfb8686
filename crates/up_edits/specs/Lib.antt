pub mod PlaceLaws
pub mod Places
pub mod Puts
pub mod Routes
pub mod Texts
pub mod Trees
